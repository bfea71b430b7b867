pub mod Standing
pub mod Rows
pub mod Sameness
pub mod Deciding
pub mod Following
pub mod Bounds
pub mod Breaches
pub mod BreachesIn
