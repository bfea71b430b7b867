pub mod Lines
pub mod Placing
pub mod Laws
pub mod Runs
pub mod Commands
