pub mod Counts
pub mod Formats
pub mod Places
