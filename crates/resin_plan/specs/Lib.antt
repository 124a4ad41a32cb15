pub mod TableCalls
pub mod Plans
pub mod Blame
pub mod Statements
