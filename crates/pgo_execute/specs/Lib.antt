pub mod Accepts
pub mod AnySettings
pub mod Executes
pub mod Follows
pub mod Gives
pub mod Ran
pub mod Schedules
