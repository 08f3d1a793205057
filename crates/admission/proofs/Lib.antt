pub mod Among
pub mod Seeking
pub mod Admitting
