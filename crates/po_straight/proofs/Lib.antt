mod Bytes
mod Numerals
mod Among
mod Splits
mod Shapes
mod OneSign
mod Written
mod Nowhere
mod Following
mod Fronts
mod Placing
mod Signing
pub mod Few
pub mod Readings
pub mod Sound
pub mod Complete
pub mod Single
pub mod Rules
pub mod Calls
mod Listings
mod Headers
mod Bodies
mod WholeBodies
mod Beginnings
mod Sequences
