pub mod Loops
pub mod Marks
pub mod MemberName
pub mod Values
