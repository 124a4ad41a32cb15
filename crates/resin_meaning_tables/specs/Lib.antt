pub mod Plans
pub mod Stops
pub mod Under
