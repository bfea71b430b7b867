pub mod Lines
pub mod Loaded
