-- Sizes of arrays (C99 6.7.5.2).
use Rattle.std.specs.Prelude.{ℕ, List, [], ◌∷◌, Option, Some, None}
use Rattle.po_tree.specs.declared.expression.Exp.{Exp}
use Rattle.po_tree.specs.Signs.{Sign, bracket, bracket_end}
use Rattle.po_exp_read.specs.Longest.{StandsAt}
use Rattle.po_exp_parts.specs.Places.{Begins}

-- SizesRead types ts sizes us: these are all sizes at the front of ts, where `types` are the typedef names in force, and us are left
pub data SizesRead (types : List (List ℕ)) : List Sign → List (Option Exp) → List Sign → Type 0 where
  sizes_end : (ts : List Sign) → (Begins bracket ts → ⊥) → SizesRead types ts [] ts
  no_size : (sizes : List (Option Exp)) (ts us : List Sign) → SizesRead types ts sizes us →
      SizesRead types (bracket ∷ (bracket_end ∷ ts)) (None ∷ sizes) us
  one_size : (x : Exp) (sizes : List (Option Exp)) (ts us vs : List Sign) → StandsAt 2 types ts x (bracket_end ∷ us) →
      SizesRead types us sizes vs → SizesRead types (bracket ∷ ts) (Some x ∷ sizes) vs
