pub mod SectionLabels
pub mod SectionLaws
pub mod SectionFollows
