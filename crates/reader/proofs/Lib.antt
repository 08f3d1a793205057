pub mod Words
pub mod ArrayLoop
pub mod ObjectLoop
pub mod Whole
