pub mod Verdict
pub mod Assigned
pub mod Constants
pub mod Placed
pub mod Looked
pub mod Elsewhere
