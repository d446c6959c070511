pub mod PartLaws
pub mod RowTexts
pub mod Added
pub mod Depths
pub mod OwnNames
pub mod Rows
pub mod ParameterNames
mod Room
