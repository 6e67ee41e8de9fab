pub mod Initialisers
pub mod Completing
