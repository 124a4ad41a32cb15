pub mod Pages
pub mod Answers
pub mod Judged
pub mod Guards
pub mod Literals
pub mod Verdicts
pub mod Items
pub mod Requoted
