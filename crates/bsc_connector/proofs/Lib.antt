mod WorkedConnector
pub mod BackLemmas
pub mod SideLemmas
pub mod Following
pub mod Beside
pub mod Apart
pub mod Leaving
pub mod Common
