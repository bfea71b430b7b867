pub mod Scripts
pub mod Standing
pub mod Checks
