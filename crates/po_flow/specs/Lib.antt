pub mod Flows
pub mod Least
pub mod Counting
pub mod Graph
pub mod Order
pub mod Waiting
pub mod Working
