pub mod NoYield
pub mod OwnNames
pub mod Bodies
pub mod Premises
pub mod Kept
pub mod Workers
