mod Lowers
mod Each
mod Numbering
mod One
mod Outcomes
mod Completing
mod Pairs
pub mod Soundness
mod Corners
mod Tells
mod Products
mod Small
mod Gains
mod Files
mod Exactly
