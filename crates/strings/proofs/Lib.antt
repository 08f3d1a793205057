pub mod Leaves
pub mod Decoding
pub mod Nodes
pub mod Members
pub mod Encoding
pub mod KindCodes
