pub mod Decimal
pub mod Compare
pub mod Row
pub mod Places
pub mod Compared
pub mod Parts
