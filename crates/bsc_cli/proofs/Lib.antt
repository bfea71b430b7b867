pub mod Found
pub mod Steps
pub mod Lists
pub mod Ways
mod Statuses
pub mod Alone
pub mod Commands
