mod Changed
mod Walked
mod Totals
mod Plain
