mod Counting
mod Keeping
mod Notes
mod Opening
mod Slots
mod Views
pub mod Common
