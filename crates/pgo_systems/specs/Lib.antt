pub mod Counted
pub mod Literals
pub mod Premises
pub mod Gotos
pub mod StatementLiterals
pub mod Failures
