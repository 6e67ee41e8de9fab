pub mod View
pub mod Order
pub mod Hashing
pub mod OrderLaws
pub mod Spelling
pub mod Subst
pub mod Weight
pub mod Finite
