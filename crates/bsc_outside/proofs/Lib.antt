pub mod Puts
pub mod Common
