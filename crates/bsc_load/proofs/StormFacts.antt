pub mod Taken
pub mod Taking
pub mod Stays
pub mod Forwarding
pub mod Splitting
pub mod Joining
pub mod Ending
