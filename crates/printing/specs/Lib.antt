pub mod Printed
pub mod Lines
pub mod Progress
pub mod Program
pub mod Repeated
