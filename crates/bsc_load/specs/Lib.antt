pub mod Peers
pub mod Frames
pub mod Workers
pub mod Load
pub mod Loaded
pub mod Inner
pub mod Laws
pub mod Storm
