pub mod OnLiterals
pub mod Numbers
pub mod Loosening
pub mod CallsBack
pub mod RepliesBack
pub mod ReadBack
pub mod Steps
pub mod Found
pub mod Whole
pub mod CallsIn
pub mod Forwards
pub mod EntriesIn
pub mod HubLines
pub mod SaidOnce
pub mod WorkedPieces
mod WorkedLines
mod WorkedReading
pub mod Common
