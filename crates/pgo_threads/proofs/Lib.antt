pub mod Crossing_pgo_base
pub mod Crossing_pgo_section
pub mod Ended
pub mod Sent
pub mod Turns
