pub mod Programs
pub mod Runs
pub mod KeeperCalls
pub mod LeavingWrites
pub mod Under
