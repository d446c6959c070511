pub mod Answers
pub mod Kept
pub mod Replaced
pub mod KeyPlace
pub mod Chosen
pub mod Choices
