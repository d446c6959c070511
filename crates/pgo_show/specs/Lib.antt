pub mod Streams
pub mod Statuses
pub mod Wishes
pub mod Makes
pub mod Promise
