pub mod Cells
pub mod Stops
pub mod Under
