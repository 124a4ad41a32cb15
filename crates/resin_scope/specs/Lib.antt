pub mod Names
pub mod Frames
pub mod Chained
pub mod Standing
pub mod Pages
pub mod Under
