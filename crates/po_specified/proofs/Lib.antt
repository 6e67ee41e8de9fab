mod Apart
mod Passed
mod Pointers
mod Reordered
mod WordRows
mod TypeWordsCounted
