pub mod Quoting
pub mod Lines
pub mod Written
pub mod Told
