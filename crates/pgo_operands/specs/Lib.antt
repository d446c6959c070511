pub mod Operands
pub mod Mentions
