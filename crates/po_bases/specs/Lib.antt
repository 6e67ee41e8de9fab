pub mod General
pub mod Maps
pub mod Intervals
pub mod Base
pub mod Bases
pub mod Cover
pub mod Filled
