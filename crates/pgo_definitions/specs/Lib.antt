pub mod Bodies
pub mod Meant
