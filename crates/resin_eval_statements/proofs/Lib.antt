pub mod Arms
pub mod Cases
pub mod Shapes
pub mod Turns
