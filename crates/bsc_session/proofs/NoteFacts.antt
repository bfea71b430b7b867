pub mod Callers
pub mod Below
pub mod Common
