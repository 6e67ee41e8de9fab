pub mod Booleans
pub mod Integers
pub mod Members
pub mod Options
pub mod Orders
pub mod Places
pub mod Results
