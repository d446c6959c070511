pub mod LoweredLaw
pub mod FreeLaws
pub mod GatheredLaws
pub mod AgreeLaws
mod Behind
mod KindLaws
mod GlobalLaws
mod SlotLaws
mod WorkLaws
mod FoundLaws
