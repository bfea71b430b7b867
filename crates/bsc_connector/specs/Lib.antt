pub mod Back
pub mod Sides
pub mod Steps
pub mod Standing
pub mod Kept
pub mod Left
