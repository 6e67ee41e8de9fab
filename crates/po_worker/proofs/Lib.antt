pub mod General
pub mod Held
pub mod Handed
pub mod Draining
