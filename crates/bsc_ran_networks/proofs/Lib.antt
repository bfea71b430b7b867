mod Networks
mod Wires
mod HubRuns
