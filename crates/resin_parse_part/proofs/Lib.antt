pub mod OpenedLaws
pub mod Fewer
