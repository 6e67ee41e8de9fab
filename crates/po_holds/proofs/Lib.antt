pub mod Telling
pub mod Sums
pub mod Chosen
pub mod Asked
pub mod Aligned
pub mod Ended
pub mod Both
pub mod Widths
