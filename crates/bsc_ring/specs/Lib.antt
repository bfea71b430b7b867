pub mod Lists
pub mod Rule
pub mod Effects
pub mod Ends
