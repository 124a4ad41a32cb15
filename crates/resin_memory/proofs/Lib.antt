pub mod Find
pub mod Telling
pub mod Taking
pub mod TablePlaces
pub mod Wholeness
