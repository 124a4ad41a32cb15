pub mod Names
pub mod Forms
pub mod Cookies
pub mod Inputs
pub mod Under
