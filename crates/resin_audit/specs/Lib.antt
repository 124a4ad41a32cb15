pub mod Verdicts
pub mod Read
pub mod Fields
pub mod Following
pub mod Told
pub mod Runs
pub mod Progress
pub mod Under
