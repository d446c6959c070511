pub mod Accesses
pub mod Programs
pub mod Assigned
pub mod Runnable
pub mod Frame
pub mod WithoutYield
