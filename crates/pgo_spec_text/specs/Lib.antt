pub mod SpecText
pub mod Searching
pub mod Cutting
pub mod Prefixes
