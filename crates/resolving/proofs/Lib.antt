pub mod Slices
pub mod Layered
pub mod Alike
pub mod Marking
pub mod Gathering
pub mod Wholes
pub mod Classes
