mod Assigned
mod Gathered
mod Nameless
