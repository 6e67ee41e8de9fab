pub mod Lists
pub mod Effects
pub mod Room
pub mod Kept
pub mod Settled
mod Shelved
pub mod Items
pub mod Taken
pub mod Starts
pub mod Posted
pub mod Tables
pub mod Agreeing
pub mod General
pub mod WholeHand
pub mod Counted
pub mod Lined
pub mod Ascending
pub mod Reported
mod Added
pub mod Assuming
pub mod Queued
