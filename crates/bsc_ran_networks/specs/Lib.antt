pub mod Networks
pub mod Wires
pub mod HubRuns
