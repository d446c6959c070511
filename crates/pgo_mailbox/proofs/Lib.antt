mod Sequences
mod Bound
pub mod Tested
mod Meant
mod Boxes
mod QueueLaws
mod QueueViews
pub mod AlikeLaws
