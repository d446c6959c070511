pub mod Parted
pub mod Near
pub mod Changed
pub mod Beside
pub mod Ends
pub mod Tries
pub mod Sects
pub mod Runnables
pub mod Programs
mod Rows
