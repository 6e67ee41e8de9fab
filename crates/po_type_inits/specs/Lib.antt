pub mod Initialising
pub mod Laws
