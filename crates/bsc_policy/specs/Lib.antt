pub mod Decisions
pub mod Writing
pub mod Classes
pub mod Filing
pub mod Tables
