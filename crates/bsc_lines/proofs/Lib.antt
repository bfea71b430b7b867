pub mod Chains
pub mod OnLiterals
mod WorkedDenials
