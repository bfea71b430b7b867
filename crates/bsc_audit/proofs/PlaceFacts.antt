pub mod Counting
pub mod Rising
pub mod Twice
pub mod Missing
pub mod Reordering
pub mod Ranges
mod WorkedPlaces
