pub mod Choosing
pub mod Exact
pub mod Asking
pub mod Pairs
pub mod Over
