pub mod Calls
pub mod Effects
pub mod Runs
pub mod Fronts
pub mod More
pub mod Literals
pub mod Laws
pub mod Programs
