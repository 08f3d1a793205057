pub mod Answers
pub mod Decoded
pub mod Leads
pub mod Nodes
pub mod OnceOn
pub mod Reads
