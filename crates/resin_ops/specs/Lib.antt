pub mod Conversions
pub mod Arithmetic
pub mod Places
pub mod Under
