pub mod Judge
pub mod Samples
pub mod Judging
pub mod Joined
