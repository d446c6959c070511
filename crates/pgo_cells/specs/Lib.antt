pub mod Parts
pub mod CellView
