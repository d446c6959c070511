mod Counts
mod Heights
mod FirstNumbers
mod Scoped
mod StatementHeights
mod StatementWalked
mod Walked
pub mod Among
