pub mod Options
pub mod Booleans
pub mod Lists
pub mod Numbers
