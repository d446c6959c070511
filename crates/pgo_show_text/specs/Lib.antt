pub mod Causes
pub mod Facts
pub mod Phrases
pub mod Shown
pub mod Walks
