pub mod Stages
pub mod Writes
pub mod Lines
pub mod Ties
pub mod Buffered
pub mod Under
