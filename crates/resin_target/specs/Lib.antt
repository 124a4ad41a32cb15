pub mod Paths
pub mod Reads
pub mod Stores
pub mod Heights
pub mod Targets
pub mod Under
