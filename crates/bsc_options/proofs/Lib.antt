pub mod Markers
pub mod Unique
pub mod Chains
pub mod Missing
pub mod Rest
pub mod Faults
pub mod Exact
pub mod Ends
mod WorkedOptions
pub mod Common
