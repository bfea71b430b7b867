pub mod Reasons
pub mod Messages
pub mod Waits
pub mod Past
pub mod Steps
pub mod Standing
pub mod Kept
