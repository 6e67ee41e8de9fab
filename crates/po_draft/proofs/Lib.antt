pub mod Kept
pub mod Least
pub mod Making
pub mod Waits
