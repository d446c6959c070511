pub mod Numbers
pub mod Paths
pub mod CodeLaws
pub mod SectionLaws
