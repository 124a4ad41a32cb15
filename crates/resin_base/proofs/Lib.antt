pub mod CallNumbers
pub mod RowLists
