pub mod Stopping
pub mod Walking
pub mod Eligibility
pub mod Starting
pub mod Unmarking
pub mod Settling
pub mod Checking
