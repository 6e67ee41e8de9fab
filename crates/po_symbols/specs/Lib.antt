pub mod Linking
pub mod Names
pub mod Differing
pub mod Pairs
pub mod Said
pub mod Causes
