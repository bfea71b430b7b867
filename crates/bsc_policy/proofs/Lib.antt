mod WorkedDecisions
mod WorkedClasses
pub mod Filed
pub mod Named
pub mod Covered
pub mod Told
