-- What the names in an expression may mean.
use Rattle.std.specs.Prelude.{ℕ, List, map}
use Rattle.po_straight.specs.Distinct.{AllDiffer}

-- a function's name and the number of its parameters
pub record Signature : Type 0 where
  pub name : List ℕ
  pub count : ℕ

-- the parameters of a definition, and the functions that can be called in it, in the order of their definitions
pub record Scope : Type 0 where
  pub parameters : List (List ℕ)
  pub functions : List Signature

-- the parameters differ, and so do the functions' names
pub record NamesDiffer (scope : Scope) : Type 0 where
  pub parameters : AllDiffer scope.parameters
  pub functions : AllDiffer (map (λ f. f.name) scope.functions)
