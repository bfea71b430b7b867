pub mod Looking
pub mod Following
pub mod Beating
pub mod Common
pub mod OwnOctets
