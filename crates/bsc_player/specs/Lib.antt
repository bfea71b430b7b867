pub mod Playing
pub mod Languages
pub mod Ends
pub mod Faults
pub mod Statuses
pub mod LastLines
pub mod Collecting
pub mod Echo
