pub mod Found
pub mod Digits
pub mod Integers
pub mod Strings
pub mod Laws
