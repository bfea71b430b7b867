pub mod OnLiterals
pub mod Answered
pub mod Pairs
pub mod Peers
pub mod Changes
pub mod Names
pub mod Leaving
pub mod Settling
pub mod Judging
pub mod Held
pub mod Opened
pub mod Acted
pub mod Spoken
pub mod Outboxes
pub mod Rounds
pub mod Ready
pub mod Received
pub mod Ticked
pub mod Carried
mod Fitting
mod Playing
mod WorkedConnects
mod WorkedForwards
mod WorkedVerdicts
mod WorkedRefusals
pub mod Touched
pub mod Entered
pub mod Sending
pub mod Stopped
pub mod Seated
pub mod Connected
pub mod Emptied
pub mod Common
