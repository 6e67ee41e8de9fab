pub mod Layers
pub mod FirstSigns
pub mod Rules
pub mod OneExpression
pub mod Again
pub mod OneStatement
pub mod OneMarking
pub mod OneDefinition
