pub mod Scopes
pub mod Going
pub mod Values
