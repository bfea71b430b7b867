pub mod Talks
pub mod Lives
pub mod Coming
pub mod Using
pub mod Telling
pub mod Stopped
