pub mod MigrateLaws
pub mod ReadBack
