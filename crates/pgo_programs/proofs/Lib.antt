pub mod Lowered
pub mod Numbers
