pub mod Saying
pub mod Journals
pub mod Good
pub mod Reading
