pub mod Named
pub mod Runs
pub mod BlockAmong
pub mod Turns
pub mod Around
pub mod Smaller
