pub mod JournalWords
mod LostLines
mod GuardedTalks
