pub mod Pieces
pub mod Passes
mod WorkedLaws
mod WorkedPasses
mod WorkedFaults
mod WorkedStatuses
mod WorkedMachines
mod WorkedOutboxes
mod WorkedTurns
mod WorkedRun
mod WorkedServing
mod WorkedJobs
mod WorkedHubRuns
mod WorkedNodeFiles
mod WorkedAudits
mod WorkedTheorems
mod WorkedCommands
mod WorkedSpellings
mod WorkedAnswers
mod WorkedRules
mod WorkedShowing
