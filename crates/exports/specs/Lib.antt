pub mod Exported
pub mod Version
