pub mod Broken
pub mod Forms
