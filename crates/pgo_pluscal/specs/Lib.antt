pub mod PartView
pub mod PartCode
pub mod PartSize
pub mod PartFalls
pub mod PlusCalOf
pub mod Text
pub mod Words
pub mod Steps
