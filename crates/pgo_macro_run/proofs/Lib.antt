mod Unhoisted
mod Simulated
pub mod Bindables
pub mod Taken
pub mod Ended
pub mod Ontos
pub mod Arms
pub mod BlockReads
