pub mod Arguments
pub mod Exits
