pub mod Room
pub mod Laid
pub mod Once
pub mod Texts
pub mod Meaning
