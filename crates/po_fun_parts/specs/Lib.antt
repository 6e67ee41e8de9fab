pub mod Stops
pub mod Keywords
pub mod Heads
pub mod Starting
pub mod Standing
