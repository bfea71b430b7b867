pub mod Replies
pub mod Lines
pub mod Denials
