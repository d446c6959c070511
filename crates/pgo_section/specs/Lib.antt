pub mod Folds
pub mod Programs
pub mod Quiet
pub mod Sight
pub mod Turns
