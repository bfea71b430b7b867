pub mod Payloads
pub mod Spelling
pub mod Layout
pub mod PayloadChecks
pub mod Checks
pub mod Walk
pub mod CheckNames
