pub mod Peers
pub mod Workers
pub mod Storms
pub mod Inner
