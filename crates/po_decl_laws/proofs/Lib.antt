pub mod Layers
pub mod Fronts
pub mod Beginning
pub mod Again
pub mod Behind
pub mod One
pub mod OneDeclaration
