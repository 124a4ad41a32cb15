pub mod Nesting
pub mod Endings
pub mod Whole
pub mod Quotes
pub mod Listing
