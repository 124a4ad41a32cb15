pub mod Places
pub mod Forms
pub mod Words
pub mod Literals
