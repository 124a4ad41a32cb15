pub mod Scans
pub mod Runs
pub mod Digits
pub mod Tables
pub mod Turns
pub mod Choices
pub mod Spelled
