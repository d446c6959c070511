pub mod Capped
pub mod Measures
pub mod Arms
pub mod WideLaws
pub mod RowLaws
