pub mod Judged
pub mod Adding
pub mod Looking
pub mod Aside
pub mod Written
pub mod Ending
pub mod Once
pub mod Lasting
pub mod Placed
pub mod Sound
pub mod SoundSteps
pub mod Keeping
pub mod Resting
pub mod OneHub
mod WorkedScripts
