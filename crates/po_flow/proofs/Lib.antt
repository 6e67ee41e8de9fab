pub mod Placing
pub mod Listing
pub mod Sums
pub mod Rising
pub mod Following
pub mod Settling
pub mod One
