mod Accepting
pub mod Crossing_pgo_base
pub mod Crossing_pgo_resource
pub mod Crossing_pgo_syntax
mod Knowing
mod Opening
mod Sent
