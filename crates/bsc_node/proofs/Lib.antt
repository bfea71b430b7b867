pub mod OnLiterals
mod Scenes
mod WorkedHubs
mod WorkedEnds
mod WorkedRenewal
mod WorkedMessages
mod WorkedDirect
pub mod Order
pub mod Passing
pub mod Told
pub mod There
pub mod Calm
pub mod Quiet
pub mod Heard
pub mod Proper
pub mod Following
pub mod Sending
pub mod Delivering
pub mod Judged
pub mod Slotting
pub mod Named
pub mod Lasting
pub mod Apart
pub mod Drawing
pub mod Moments
pub mod Common
