pub mod Exact
pub mod Digits
mod Columns
mod Signs
mod Parts
mod Steps
pub mod Total
