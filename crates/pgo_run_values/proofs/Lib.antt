pub mod Bytes
pub mod Places
pub mod Along
pub mod Writable
