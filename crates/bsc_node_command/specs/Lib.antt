pub mod Lines
pub mod Settled
pub mod Comes
pub mod Lives
pub mod Ran
pub mod Tested
