pub mod State
pub mod Keeping
pub mod Steps
pub mod Variables
pub mod Objects
pub mod Filters
pub mod Leaving
pub mod Under
