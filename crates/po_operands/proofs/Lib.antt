mod Agreement
mod Combinations
mod Layers
mod Lvalues
mod StarredBases
mod Told
mod TypeNames
