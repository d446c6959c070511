pub mod Under
pub mod Levels
pub mod Lefts
pub mod Least
pub mod Leads
pub mod Counted
