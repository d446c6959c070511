mod BoxedLaws
mod ContentsAtStart
pub mod Crossing_pgo_base
pub mod Crossing_pgo_cells
pub mod Crossing_pgo_mailbox
pub mod Crossing_pgo_starts
mod OwnRows
