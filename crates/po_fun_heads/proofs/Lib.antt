pub mod Following
pub mod FollowingInTrees
pub mod Hiding
pub mod AsDeclarations
pub mod InsideHeads
pub mod OneHead
pub mod Marking
