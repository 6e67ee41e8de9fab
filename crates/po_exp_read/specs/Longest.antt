-- The longest expression in a range of tokens.
use Rattle.std.specs.Prelude.{ℕ, ◌≤◌, ◌≡◌, List, ◌++◌, length}
use Rattle.po_tree.specs.declared.expression.Exp.{Exp}
use Rattle.po_tree.specs.Signs.{Sign}
use Rattle.po_tree.specs.Printing.{flat}
use Rattle.po_tree.specs.Expressions.{IsExpression}

-- x is a well-formed expression, where `types` are the typedef names in force, and the tokens are those that it prints and then these
pub record StandsBefore (types : List (List ℕ)) (signs : List Sign) (x : Exp) (left : List Sign) : Type 0 where
  pub formed : IsExpression types x
  pub printed : signs ≡ flat x ++ left

-- x stands at the front, and no longer expression does
pub record IsLongest (types : List (List ℕ)) (signs : List Sign) (x : Exp) (left : List Sign) : Type 0 where
  pub stands : StandsBefore types signs x left
  pub longest : (y : Exp) (rest : List Sign) → StandsBefore types signs y rest → length left ≤ length rest

-- no well-formed expression stands at the front
abbrev pub NothingStands : List (List ℕ) → List Sign → Type 0
NothingStands types signs = (y : Exp) (rest : List Sign) → StandsBefore types signs y rest → ⊥

-- the same of an expression of this level or a higher one
pub record StandsAt (least : ℕ) (types : List (List ℕ)) (signs : List Sign) (x : Exp) (left : List Sign) : Type 0 where
  pub stands : StandsBefore types signs x left
  pub high : least ≤ stands.formed.level_of

pub record IsLongestAt (least : ℕ) (types : List (List ℕ)) (signs : List Sign) (x : Exp) (left : List Sign) : Type 0 where
  pub stands : StandsAt least types signs x left
  pub longest : (y : Exp) (rest : List Sign) → StandsAt least types signs y rest → length left ≤ length rest

abbrev pub NothingStandsAt : ℕ → List (List ℕ) → List Sign → Type 0
NothingStandsAt least types signs = (y : Exp) (rest : List Sign) → StandsAt least types signs y rest → ⊥
