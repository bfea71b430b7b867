pub mod OnLiterals
pub mod Playing
mod WorkedScripts
mod WorkedExamples
