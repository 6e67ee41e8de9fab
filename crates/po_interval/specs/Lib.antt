pub mod Sets
pub mod Members
pub mod Within
pub mod Rounding
pub mod Ranges
pub mod Results
pub mod Gathering
