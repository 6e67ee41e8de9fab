pub mod Meanings
pub mod Standing
pub mod Laws
