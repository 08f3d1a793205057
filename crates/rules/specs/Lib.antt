pub mod Given
pub mod Told
pub mod Alone
pub mod Ruled
