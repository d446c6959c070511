pub mod ClientLists
pub mod Clients
pub mod Opened
