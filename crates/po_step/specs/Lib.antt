pub mod Supporting
pub mod Checking
pub mod Passing
pub mod Outcomes
pub mod Stepping
