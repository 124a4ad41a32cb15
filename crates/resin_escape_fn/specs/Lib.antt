pub mod Stops
pub mod Escapes
pub mod LineBreaks
pub mod Digests
pub mod Characters
pub mod Rules
