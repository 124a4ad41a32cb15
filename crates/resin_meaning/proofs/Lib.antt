pub mod Parts
pub mod Composition
pub mod Enclosures
pub mod OneCall
