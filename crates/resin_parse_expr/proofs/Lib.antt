pub mod LevelLaws
pub mod GivesLaws
pub mod Tails
