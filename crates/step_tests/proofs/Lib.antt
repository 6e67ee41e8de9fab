mod Whole
mod Start
mod Supported
