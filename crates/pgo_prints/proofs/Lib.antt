pub mod PrintCounts
pub mod PrintValues
pub mod Entries
