pub mod Lent
pub mod Pages
pub mod Under
