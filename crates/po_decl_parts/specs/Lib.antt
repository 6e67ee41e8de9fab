pub mod Constants
pub mod Sizes
pub mod Enumerators
pub mod Specifiers
pub mod Printed
