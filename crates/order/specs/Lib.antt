pub mod ByText
pub mod Chained
pub mod Ordered
