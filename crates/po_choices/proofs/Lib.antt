mod ChoicesOfTypes
mod ConstantForms
mod Layers
mod NullForms
mod Sizes
pub mod Whether
mod ZeroLeaves
