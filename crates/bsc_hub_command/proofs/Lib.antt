mod Binding
mod Stopping
mod HubBack
mod Settling
mod Loading
mod WorkedHubLine
