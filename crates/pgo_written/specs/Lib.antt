pub mod Alone
pub mod Formed
pub mod FormedCode
pub mod FormedModule
pub mod FormedSpec
pub mod FormedStatements
pub mod Low
