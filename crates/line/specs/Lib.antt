pub mod Replies
pub mod Emitted
