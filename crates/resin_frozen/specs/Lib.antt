pub mod Texts
pub mod Policies
pub mod Reading
pub mod Reads
pub mod Laws
