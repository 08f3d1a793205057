pub mod Longest
pub mod Named
pub mod Reading
pub mod Texts
pub mod Words
pub mod Twofold
