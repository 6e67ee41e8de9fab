pub mod Measured
pub mod Changes
