pub mod Compounds
