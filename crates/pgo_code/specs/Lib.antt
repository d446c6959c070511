pub mod Elements
pub mod Steps
pub mod See
