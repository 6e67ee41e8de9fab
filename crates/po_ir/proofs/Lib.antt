pub mod General
mod Gains
mod Reached
mod Reaching
mod Paired
mod Within
mod Sites
