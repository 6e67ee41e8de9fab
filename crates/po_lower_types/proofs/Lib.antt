pub mod Held
mod Powers
mod Changing
mod Combined
mod Elements
