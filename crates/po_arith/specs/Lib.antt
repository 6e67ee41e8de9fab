pub mod Types
pub mod Division
pub mod Shifts
pub mod Bits
pub mod Hull
pub mod Ranges
