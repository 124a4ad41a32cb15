pub mod Opened
pub mod Fewer
pub mod Steps
pub mod Ahead
pub mod Repeats
pub mod Chains
