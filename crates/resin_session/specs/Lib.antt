pub mod Texts
pub mod Sessions
pub mod Reading
pub mod Answers
pub mod Laws
