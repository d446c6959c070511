pub mod Sound
pub mod Reached
