pub mod Maps
pub mod Sound
pub mod Lifts
pub mod Stores
pub mod CellLifts
