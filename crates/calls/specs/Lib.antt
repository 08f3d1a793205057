pub mod Trying
pub mod Rules
