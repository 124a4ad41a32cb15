pub mod Joins
pub mod Totals
pub mod Joint
pub mod Answers
pub mod Readings
