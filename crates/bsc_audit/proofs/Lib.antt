pub mod Snoc
pub mod Spots
pub mod SoFar
pub mod Bad
pub mod SortedOut
pub mod InOrder
pub mod Within
pub mod InTurn
pub mod ComesTo
pub mod Stopping
pub mod Told
pub mod SayAgain
pub mod Counts
pub mod OneHistory
pub mod Believed
pub mod Explained
mod WorkedJournals
mod WorkedFiles
pub mod PlaceFacts
pub mod FileFacts
