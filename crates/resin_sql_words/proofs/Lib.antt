pub mod Placing
pub mod Spelling
