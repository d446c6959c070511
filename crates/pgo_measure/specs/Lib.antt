pub mod Heights
pub mod Spots
pub mod Measured
pub mod Looked
pub mod Pendings
pub mod PendingView
pub mod NameRows
