pub mod Places
pub mod Refused
mod Named
pub mod Contained
mod Apart
mod LeastPairs
pub mod SaidOf
mod Found
mod Answered
mod Indexed
