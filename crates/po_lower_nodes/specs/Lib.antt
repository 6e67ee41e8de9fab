pub mod Groups
pub mod Parameters
