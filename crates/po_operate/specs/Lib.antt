pub mod Finding
pub mod Ready
pub mod Values
pub mod Copying
