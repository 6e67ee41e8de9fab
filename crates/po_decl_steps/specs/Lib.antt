pub mod Standing
pub mod Completing
pub mod Steps
