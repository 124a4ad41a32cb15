pub mod Whole
pub mod AsParsed
pub mod Within
pub mod Meant
