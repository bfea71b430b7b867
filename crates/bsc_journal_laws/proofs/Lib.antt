pub mod Shorts
pub mod Noting
pub mod Places
pub mod Standing
pub mod Sharing
pub mod Clean
pub mod Cutting
pub mod Lengths
pub mod Order
pub mod Fitting
pub mod Together
pub mod Small
pub mod Bounds
pub mod Saying
pub mod Counting
pub mod Entries
pub mod Runs
pub mod Audits
pub mod Titles
pub mod Commands
mod WorkedPlaces
mod WorkedRuns
