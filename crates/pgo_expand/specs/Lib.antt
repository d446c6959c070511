pub mod Module
pub mod Items
pub mod Limits
pub mod Measures
