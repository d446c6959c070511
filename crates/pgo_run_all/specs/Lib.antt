pub mod LeftBehind
