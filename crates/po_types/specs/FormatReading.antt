-- How the parts of a format are told from left to right.
use Rattle.std.specs.Prelude.{ℕ, List, [], ◌∷◌, All, cond, nat_eq, Option, Some, None, ⊤}
use Rattle.std.specs.List.{starts_with}
use Rattle.po_types.specs.declared.format.Spec.{Spec}

-- a text doesn't begin with such a byte
abbrev pub Stops : (ℕ → Type 0) → List ℕ → Type 0
Stops P [] = ⊤
Stops P (b ∷ bs) = P b → ⊥

-- bytes of one kind, behind which no further one stands
pub record IsRun (P : ℕ → Type 0) (run rest : List ℕ) : Type 0 where
  pub all : All P run
  pub stops : Stops P rest

-- the first of these letters with which the text begins, and what they read
abbrev pub first_row : List (List ℕ × Spec) → List ℕ → Option (List ℕ × Spec)
first_row [] text = None
first_row (row ∷ rows) text = cond (starts_with nat_eq text row.0) (Some row) (first_row rows text)
