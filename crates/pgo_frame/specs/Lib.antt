pub mod Agreement
pub mod WellBound
pub mod Found
