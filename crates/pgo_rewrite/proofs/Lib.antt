pub mod Among
pub mod Counts
pub mod NewestLaws
pub mod Places
pub mod RewrittenLaws
pub mod Walked
