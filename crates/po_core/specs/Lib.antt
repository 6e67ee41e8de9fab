pub mod Book
pub mod Order
pub mod Least
pub mod Core
pub mod Theorem
pub mod Decided
pub mod Marks
