pub mod Causes
pub mod Contents
pub mod FileStore
pub mod TableStore
pub mod Moves
pub mod Numbering
pub mod Places
