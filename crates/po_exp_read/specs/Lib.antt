pub mod Longest
pub mod Enclosed
