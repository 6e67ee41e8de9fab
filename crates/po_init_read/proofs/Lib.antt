pub mod Layers
pub mod Fronts
pub mod Ended
pub mod Behind
pub mod One
pub mod Values
pub mod Braces
pub mod Leading
