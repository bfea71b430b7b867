pub mod Lists
pub mod Passing
pub mod Lives
pub mod Sending
pub mod Coming
pub mod Hearing
pub mod Members
pub mod Joining
pub mod Naming
pub mod Parting
pub mod Directly
pub mod Delivering
pub mod Worked
pub mod WorkedNode
mod Linking
mod WorkedNetwork
mod WorkedWrong
mod WorkedHubs
mod WorkedNetworks
pub mod Served
pub mod Running
pub mod Reached
pub mod Wholly
mod Scripts
mod OfNodes
mod Wires
pub mod Born
pub mod Peering
pub mod Boarding
