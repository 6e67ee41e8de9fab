pub mod Held
pub mod Kinds
pub mod Sketches
pub mod Filling
pub mod Waiting
pub mod Making
