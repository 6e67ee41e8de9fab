pub mod Groups
pub mod Values
pub mod Addresses
pub mod Assignments
pub mod Conditions
pub mod Choices
pub mod Listed
pub mod Stepped
