pub mod Numbers
pub mod Composition
pub mod Keepers
pub mod Rows
pub mod LabelledTables
pub mod Frames
pub mod Apart
pub mod framed_forms
