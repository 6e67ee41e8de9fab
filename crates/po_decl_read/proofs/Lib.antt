pub mod Scopes
pub mod Looping
pub mod OnePiece
