pub mod Values
pub mod Blocks
pub mod Holding
pub mod Bytes
pub mod Accesses
pub mod Since
pub mod Walking
pub mod Passing
