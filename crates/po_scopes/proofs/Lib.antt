mod Blocks
mod Enumerations
mod Files
mod Shown
