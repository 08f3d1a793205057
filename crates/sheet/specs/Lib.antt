pub mod Accepted
pub mod Named
