pub mod Laying
pub mod Quotes
pub mod Lists
pub mod Texts
pub mod Once
pub mod Gathered
pub mod Sourcing
