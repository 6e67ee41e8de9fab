pub mod Joined
pub mod Noted
pub mod Objects
pub mod Scoped
pub mod Parted
pub mod Outcome
