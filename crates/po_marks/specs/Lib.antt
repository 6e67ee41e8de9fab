pub mod Known
pub mod Waiting
