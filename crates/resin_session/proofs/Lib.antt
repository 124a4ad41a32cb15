pub mod Basics
pub mod Canonical
pub mod Labelled
pub mod Runs
pub mod Pairs
pub mod Sessions
pub mod Written
