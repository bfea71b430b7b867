pub mod Messages
pub mod Past
pub mod Steps
pub mod Standing
pub mod Kept
