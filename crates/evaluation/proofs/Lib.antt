pub mod Limits
pub mod After
pub mod Entering
pub mod Shallow
pub mod Junctions
pub mod Quantifiers
