pub mod Reads
pub mod Asks
pub mod Gen
pub mod Seen
