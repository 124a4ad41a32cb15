pub mod Beginnings
pub mod Methods
pub mod Under
