pub mod Limits
pub mod Within
pub mod Literals
