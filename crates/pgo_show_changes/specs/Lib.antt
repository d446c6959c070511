pub mod Components
pub mod Changes
