pub mod AllRuns
pub mod LeftAccounts
pub mod Lists
pub mod NewJobs
pub mod Nobody
