pub mod Scans
pub mod Numbers
