pub mod Asking
pub mod Living
pub mod Breaking
pub mod Pausing
pub mod Planning
pub mod Ending
