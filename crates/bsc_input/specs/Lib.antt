pub mod Lines
pub mod Cutting
pub mod Given
pub mod Feeding
pub mod Inbox
