pub mod Each
pub mod Values
pub mod States
pub mod Rounding
pub mod Ranks
pub mod Heights
pub mod Proper
pub mod ProperRanks
