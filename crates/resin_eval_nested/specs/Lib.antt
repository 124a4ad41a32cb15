pub mod Running
pub mod Nested
pub mod Under
