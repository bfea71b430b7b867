pub mod Requests
pub mod Refusals
pub mod Heard
pub mod Waiting
pub mod Ending
