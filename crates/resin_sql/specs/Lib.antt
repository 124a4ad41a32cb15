pub mod Conditions
pub mod Statements
pub mod Answers
pub mod Places
pub mod Readings
pub mod Labels
pub mod Literals
pub mod Messages
