pub mod OnLiterals
pub mod Scenes
mod WorkedUnicast
mod WorkedBroadcast
mod WorkedFailover
mod WorkedDials
mod WorkedDirect
mod WorkedEnds
mod WorkedRefusals
pub mod Places
pub mod Frames
pub mod Common
