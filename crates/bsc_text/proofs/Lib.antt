pub mod Cutting
pub mod Giving
pub mod Reading
pub mod Spelling
pub mod Spending
pub mod WorkedText
pub mod Taking
