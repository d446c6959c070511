pub mod Pieces
pub mod Parts
pub mod WellFormed
pub mod ByName
