pub mod Converting
pub mod Designating
pub mod Joining
pub mod Laws
