pub mod Places
pub mod Orders
pub mod Numbers
pub mod Live
pub mod Ordered
pub mod Alone
pub mod Owners
pub mod Sameness
pub mod Fared
pub mod Advances
pub mod Decides
pub mod Matches
pub mod Changes
pub mod Bounded
pub mod Breaches
mod WorkedBreaches
