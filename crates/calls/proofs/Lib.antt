pub mod Calls
pub mod Evaluating
pub mod Trying
pub mod Deciding
