pub mod Site
pub mod Trace
