pub mod Rows
pub mod Places
pub mod FirstPlaces
mod ElementBound
