pub mod Messages
pub mod Laws
pub mod Policies
pub mod Ports
pub mod Npdus
