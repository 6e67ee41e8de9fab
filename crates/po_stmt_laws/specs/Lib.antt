pub mod Reading
pub mod Continuing
