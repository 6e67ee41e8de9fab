pub mod Words
pub mod WordTypes
