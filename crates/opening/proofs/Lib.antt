pub mod Clearing
pub mod Opening
