pub mod Joins
pub mod Zipped
pub mod Parted
pub mod Trims
pub mod Charges
