pub mod First
pub mod Growing
pub mod Stepping
pub mod Measured
pub mod Lawful
pub mod Telling
mod WorkedCourse
