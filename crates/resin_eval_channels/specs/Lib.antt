pub mod Held
pub mod Under
