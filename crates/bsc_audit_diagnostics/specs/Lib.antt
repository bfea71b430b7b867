pub mod Sought
pub mod Texts
pub mod Reasons
