pub mod Parts
pub mod Grammar
pub mod Spells
pub mod Written
