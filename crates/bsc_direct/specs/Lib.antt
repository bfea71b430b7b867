pub mod Slots
pub mod Laws
pub mod Standing
pub mod Paths
pub mod Kept
pub mod Left
