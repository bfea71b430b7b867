pub mod Looking
pub mod Following
pub mod Common
pub mod OwnOctets
