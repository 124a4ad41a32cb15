pub mod Appends
pub mod Callees
pub mod Under
