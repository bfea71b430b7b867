pub mod Batches
pub mod Naks
pub mod Requests
pub mod Stamps
pub mod Turnings
mod WorkedTurnings
