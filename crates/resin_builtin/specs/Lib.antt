pub mod Names
pub mod Signatures
pub mod Arguments
pub mod Rows
pub mod Calls
pub mod Turns
pub mod Under
