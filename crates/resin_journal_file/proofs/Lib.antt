pub mod Decimals
pub mod Fields
pub mod Runs
pub mod Items
pub mod Once
pub mod Lengths
pub mod Back
pub mod Fronts
