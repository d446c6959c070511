pub mod Chosen
pub mod Tries
pub mod Outcomes
pub mod Counts
pub mod Sections
pub mod Attempts
