pub mod HubLines
pub mod Lines
pub mod Served
pub mod Settled
pub mod Tested
