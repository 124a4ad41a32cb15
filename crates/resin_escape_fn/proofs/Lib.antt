pub mod Walk
pub mod Breaks
pub mod Short
