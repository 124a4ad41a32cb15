pub mod Asked
pub mod OwnMerge
pub mod Unions
pub mod Under
