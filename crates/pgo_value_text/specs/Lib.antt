pub mod IsValueText
pub mod Writable
pub mod ReadValue
pub mod Parsers
pub mod Reading
pub mod Writing
