mod WorkedSlots
mod WorkedPaths
pub mod OneMore
pub mod Keeping
pub mod Finding
pub mod Following
pub mod Leaving
