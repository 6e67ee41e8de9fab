mod Large
mod OneSpelling
mod Nested
mod Spells
mod FormatPieces
mod FormatsRead
mod OneLayout
mod Promoting
mod Lays
pub mod NestingLaws
pub mod TypesLaws
mod Replaced
