pub mod Spelled
pub mod Answers_of
pub mod Freezes
pub mod Distinct
pub mod Labelling
pub mod MetSets
pub mod Thaws
