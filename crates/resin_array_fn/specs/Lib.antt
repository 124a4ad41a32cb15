pub mod Filled
pub mod Rows
pub mod Searches
pub mod Under
