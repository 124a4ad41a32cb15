pub mod Plans
pub mod Joins
pub mod Totals
pub mod Values
pub mod Under
