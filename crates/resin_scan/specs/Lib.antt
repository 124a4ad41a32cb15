pub mod Bytes
pub mod Lists
pub mod Words
pub mod Keywords
pub mod Numbers
pub mod Stretches
pub mod Escapes
