pub mod Lists
pub mod Calls
pub mod Going
pub mod Addresses
pub mod Forwarding
pub mod Unjoined
pub mod Emptying
pub mod Both
pub mod Running
pub mod Passing
pub mod Splitting
pub mod Given
pub mod Joining
pub mod Ending
pub mod Appended
mod WorkedFrames
pub mod Common
pub mod StormFacts
