pub mod Journal
pub mod Code
pub mod States
