pub mod LinkView
