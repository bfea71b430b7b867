mod AskedWell
mod More
mod CountsOn
pub mod Ending
