pub mod Lifted
pub mod LineLaws
pub mod Optional
