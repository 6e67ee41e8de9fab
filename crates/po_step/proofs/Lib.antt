mod Numbering
mod Fitting
mod Ready
mod Passed
mod Returning
mod Carried
mod Libraries
mod Stepping
