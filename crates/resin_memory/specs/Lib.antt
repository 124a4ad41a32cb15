pub mod Tallies
pub mod Codes
pub mod Fakes
