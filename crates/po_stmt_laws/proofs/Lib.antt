pub mod Layers
pub mod Once
pub mod Items
pub mod Flat
pub mod ReadingOn
