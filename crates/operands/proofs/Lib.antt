pub mod Layers
pub mod Pairs
