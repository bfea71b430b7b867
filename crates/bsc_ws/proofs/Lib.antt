pub mod Offering
pub mod Naming
pub mod Closing
mod WorkedClosing
