pub mod Fitting
pub mod Lists
pub mod Graphs
pub mod Operators
pub mod Trees
pub mod Definitions
