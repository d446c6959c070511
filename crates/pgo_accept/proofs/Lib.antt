pub mod Accepted
pub mod Counted
pub mod FirstLabels
pub mod Fitting
pub mod Heads
pub mod Refused
mod Rows
pub mod TextValues
pub mod Unbroken
pub mod Unlabelled
pub mod Variables
pub mod WrittenOnce
