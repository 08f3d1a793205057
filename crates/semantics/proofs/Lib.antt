pub mod Names
pub mod Later
pub mod Kleene
pub mod Slips
pub mod Parts
pub mod Spelled
pub mod Exactly
