pub mod Bare
pub mod Supported
