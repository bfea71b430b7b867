pub mod Resolving
pub mod Standing
pub mod Kept
