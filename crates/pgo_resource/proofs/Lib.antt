pub mod PlainPlaces
pub mod PlainSteps
pub mod WordAt
pub mod Turning
