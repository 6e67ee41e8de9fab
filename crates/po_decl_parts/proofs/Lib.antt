pub mod Naming
pub mod Endings
pub mod Bracketed
pub mod Listed
pub mod FirstWords
pub mod Printed
pub mod PrintedSpecifiers
