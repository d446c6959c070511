pub mod HighestOf
pub mod NodesIn
pub mod Several
