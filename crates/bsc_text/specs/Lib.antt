pub mod Lines
pub mod Words
pub mod Grammar
pub mod Feeding
pub mod Gave
