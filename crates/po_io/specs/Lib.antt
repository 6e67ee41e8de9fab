pub mod Count
pub mod Reading
pub mod Writing
pub mod Shelf
pub mod Basin
pub mod Progress
