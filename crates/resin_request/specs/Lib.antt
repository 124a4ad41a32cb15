pub mod Paths
pub mod Sources
pub mod Scripts
pub mod Sessions
pub mod Requests
pub mod Under
