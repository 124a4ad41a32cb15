pub mod Lawful
pub mod Carrying
pub mod Standing
pub mod Taking
pub mod Single
