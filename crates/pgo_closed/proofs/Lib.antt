pub mod MadeEntries
pub mod ClosedRuns
pub mod Ends
pub mod Rows
