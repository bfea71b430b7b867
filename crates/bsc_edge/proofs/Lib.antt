pub mod Common
pub mod Reading
mod Removing
mod WorkedReads
