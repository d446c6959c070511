pub mod Answers
pub mod Given
pub mod Assigned
pub mod Chosen
pub mod Runs
pub mod AroundView
pub mod NextView
