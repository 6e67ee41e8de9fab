pub mod Following
pub mod Stepping
pub mod AtSpecifiers
pub mod InDeclarators
pub mod SameInits
pub mod BehindParts
pub mod BehindMembers
pub mod BehindParams
