pub mod Promised
pub mod Making
