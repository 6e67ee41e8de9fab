pub mod Bytes
pub mod Following
pub mod Registers
