pub mod Blaming
pub mod Runs
pub mod Turns
