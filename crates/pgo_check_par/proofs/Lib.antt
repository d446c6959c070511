pub mod Crossing_pgo_base
pub mod Crossing_pgo_check
pub mod Crossing_pgo_check_par
pub mod Joins
pub mod Shared
pub mod Slices
