-- Why a report is sound.
mod Members
mod Numbers
mod Registers
mod Places
mod Results
mod Served
mod Files
mod Graphs
mod Entries
mod Passing
mod Supports
pub mod Frames
mod Checks
mod Listed
pub mod Meeting
pub mod Least
pub mod Along
pub mod Starting
mod Decided
pub mod Progress
mod Same
mod Sample
mod SampleRuns
mod SampleFile
