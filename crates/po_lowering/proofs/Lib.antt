pub mod Same
pub mod UniqueExpressions
pub mod UniqueInitialisers
pub mod UniqueStatements
pub mod UniqueFunctions
pub mod Examples
pub mod ExampleFunction
