pub mod Scalars
pub mod Faults
pub mod Stops
