pub mod Lists
pub mod Lives
pub mod Using
pub mod Walking
pub mod Events
pub mod LetGo
pub mod Written
pub mod Stopped
pub mod Telling
pub mod NodeWords
mod Worked
