pub mod Head
pub mod Fields
pub mod Stream
pub mod Steps
pub mod Response
pub mod Inputs
pub mod Marks
