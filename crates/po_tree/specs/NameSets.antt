-- Lists of names as sets.
use Rattle.std.specs.Prelude.{ℕ, ◌⊎◌, ◌↔◌, List, Contains}

-- the same names, in whatever order and however often
abbrev pub AreSame : List (List ℕ) → List (List ℕ) → Type 0
AreSame xs ys = (name : List ℕ) → Contains xs name ↔ Contains ys name

-- the names that are such are added, and nothing else
pub record Adds (P : List ℕ → Type 0) (before behind : List (List ℕ)) : Type 0 where
  pub each : (x : List ℕ) → Contains behind x ↔ (Contains before x ⊎ P x)

-- the names that are such are taken away, and nothing else
pub record Hides (P : List ℕ → Type 0) (before behind : List (List ℕ)) : Type 0 where
  pub each : (x : List ℕ) → Contains behind x ↔ (Contains before x × (P x → ⊥))
