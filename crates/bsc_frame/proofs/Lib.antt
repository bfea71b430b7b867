pub mod First
pub mod Numbers
pub mod PayloadFirst
pub mod Payloads
pub mod Connects
pub mod Flags
pub mod Heads
pub mod OptionLists
pub mod Bodies
pub mod Whole
pub mod Exact
mod WorkedMessages
pub mod Common
