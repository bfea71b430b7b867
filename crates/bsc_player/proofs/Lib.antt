pub mod Cutting
pub mod SoFar
pub mod Reached
pub mod Stopping
pub mod Feeding
pub mod Looping
pub mod Reading
pub mod Ran
pub mod NeverAtEnd
mod WorkedPlays
