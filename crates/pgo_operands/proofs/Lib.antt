pub mod Heights
pub mod Mentioned
pub mod Members
