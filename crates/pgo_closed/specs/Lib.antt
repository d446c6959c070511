pub mod MadeEntries
pub mod ClosedBoards
pub mod ClosedRuns
pub mod SystemRuns
