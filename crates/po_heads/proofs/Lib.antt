pub mod Agree
pub mod Expressions
pub mod Statements
pub mod Standing
pub mod Naming
mod HavingExpressions
mod HavingDeclarations
mod Counting
mod Counted
mod CountedStatements
