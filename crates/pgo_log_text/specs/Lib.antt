pub mod IsBundle
pub mod Parsers
pub mod Bytes
pub mod Lines
pub mod AttemptView
pub mod ReadBundle
pub mod WrittenRun
pub mod LineNumbers
