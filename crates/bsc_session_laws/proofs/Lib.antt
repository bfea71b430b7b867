mod Verdicts
mod Turning
mod Courses
mod Forwarding
mod Connecting
mod Owning
mod Accepting
mod Guarding
mod Ports
mod Putting
pub mod WorkedLaws
mod WorkedPolicies
pub mod Talks
