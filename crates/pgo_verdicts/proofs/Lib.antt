pub mod Once
pub mod Accepted
pub mod Migrations
