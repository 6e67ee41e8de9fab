-- The variables in scope, kept by their names.
use Rattle.std.specs.Prelude.{ℕ, ◌<◌, ◌≡◌, List, [], ◌∷◌, ◌++◌, length, Option, Some, None, cond, get_or}
use Rattle.po_lowering.specs.declared.var.Var.{Var}
use Rattle.po_lowering.specs.Naming.{Scope, is_same, either}
use Rattle.po_types.specs.Tables.{found as number_of}

-- the variables of a name in the order of their entries
abbrev pub variables_of : List ℕ → Scope → List Var
variables_of name [] = []
variables_of name ((other, v) ∷ rest) = cond (is_same name other) (v ∷ variables_of name rest) (variables_of name rest)

abbrev pub last_of : List Var → Option Var
last_of [] = None
last_of (v ∷ vs) = either (last_of vs) (Some v)

-- each name has a number of its own, at which its variables are kept
abbrev pub AreNumbered : List (List ℕ × ℕ) → List (List Var) → Type 0
AreNumbered numbers kept = (name : List ℕ) (k : ℕ) → number_of numbers name ≡ Some k → k < length kept

-- the variables of each name are kept in their order
pub record IsIndexed (entries : Scope) (numbers : List (List ℕ × ℕ)) (kept : List (List Var)) : Type 0 where
  pub within : AreNumbered numbers kept
  pub apart : (a b : List ℕ) (k : ℕ) → number_of numbers a ≡ Some k → number_of numbers b ≡ Some k → a ≡ b
  pub here : (name : List ℕ) (k : ℕ) → number_of numbers name ≡ Some k → get_or kept k [] ≡ variables_of name entries
  pub none : (name : List ℕ) → number_of numbers name ≡ None → variables_of name entries ≡ []

-- an index stays one of the same entries
abbrev pub KeepsIndex : List (List ℕ × ℕ) → List (List Var) → List (List ℕ × ℕ) → List (List Var) → Type 0
KeepsIndex numbers kept numbers' kept' = (entries : Scope) → IsIndexed entries numbers kept → IsIndexed entries numbers' kept'

-- and it becomes one of the entries with one more
abbrev pub AddsToIndex : List ℕ → Var → List (List ℕ × ℕ) → List (List Var) → List (List ℕ × ℕ) → List (List Var) → Type 0
AddsToIndex name v numbers kept numbers' kept' = (entries : Scope) → IsIndexed entries numbers kept → IsIndexed (entries ++ (name, v) ∷ []) numbers' kept'

-- or of those without the last
abbrev pub TakesFromIndex : List ℕ → List (List ℕ × ℕ) → List (List Var) → List (List Var) → Type 0
TakesFromIndex name numbers kept kept' = (entries : Scope) (v : Var) → IsIndexed (entries ++ (name, v) ∷ []) numbers kept → IsIndexed entries numbers kept'
