pub mod Stops
pub mod Matches
pub mod Rows
