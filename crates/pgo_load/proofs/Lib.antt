pub mod Constants
pub mod Loading
pub mod Texts
