pub mod Sorting
pub mod CellOrder
pub mod Lists
pub mod Loops
pub mod KeptNames
pub mod Causes
pub mod ConditionLaws
pub mod Beside
