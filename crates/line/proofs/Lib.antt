pub mod Answers
pub mod Decodes
pub mod Lengths
pub mod Bounds
pub mod Replies
