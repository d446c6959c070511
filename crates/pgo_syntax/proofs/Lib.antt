pub mod Ends
pub mod Leasts
