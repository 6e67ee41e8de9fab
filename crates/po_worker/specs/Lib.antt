pub mod Alone
pub mod Work
pub mod Asked
