pub mod Oldest
pub mod Arriving
pub mod Turning
