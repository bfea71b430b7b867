pub mod Limits
pub mod Receiving
pub mod Sending
pub mod Protocols
pub mod Targets
pub mod Handshakes
