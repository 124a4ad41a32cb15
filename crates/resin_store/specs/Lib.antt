pub mod Mapped
pub mod Entries
pub mod Files
pub mod Cells
pub mod Laws
