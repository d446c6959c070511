pub mod Boarding
pub mod Closings
pub mod Crossing_pgo_base
pub mod Crossing_pgo_journal
pub mod Fresh
pub mod Found
pub mod SeatSeen
pub mod Sent
