pub mod Listed
pub mod Moved
