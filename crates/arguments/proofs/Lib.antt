pub mod Same
pub mod Digits
pub mod First
pub mod Examples
