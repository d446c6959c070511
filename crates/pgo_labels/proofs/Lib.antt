mod Rows
pub mod Nesting
pub mod Found
pub mod Repeats
pub mod Lasts
pub mod Ends
pub mod Walks
