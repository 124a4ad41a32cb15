pub mod Columns
pub mod Cells
pub mod Refusals
pub mod Conditions
pub mod Rows
