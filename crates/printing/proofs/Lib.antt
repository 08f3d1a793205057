pub mod Printing
pub mod Overlong
pub mod Splitting
pub mod Feeding
pub mod Keeping
pub mod Answering
pub mod Program
pub mod Twofold
