pub mod Form
pub mod Reading
pub mod Meaning
pub mod Reads
pub mod Lift
pub mod InARow
