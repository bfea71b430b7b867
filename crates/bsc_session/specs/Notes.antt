pub mod Octets
pub mod Notes
pub mod Noting
