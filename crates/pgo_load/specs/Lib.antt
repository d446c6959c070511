pub mod Load
pub mod Numbered
