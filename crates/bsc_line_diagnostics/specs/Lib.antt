pub mod Scripts
pub mod NodeScripts
pub mod Journals
