-- The initialiser behind a declarator, where one is written (C99 6.7.8).
use Rattle.std.specs.Prelude.{ℕ, ◌≡◌, List, ◌∷◌, Option, Some, None}
use Rattle.po_tree.specs.declared.declaration.Init.{Init}
use Rattle.po_tree.specs.Signs.{Sign, equals}
use Rattle.po_exp_parts.specs.Places.{Begins}
use Rattle.po_init_read.specs.Initialisers.{StandsEnded}

-- ValueRead types ts value us: this initialiser stands at the front of ts behind its sign, or none where no sign stands there, and us are left
pub data ValueRead (types : List (List ℕ)) (ts : List Sign) : Option Init → List Sign → Type 0 where
  no_value : (Begins equals ts → ⊥) → ValueRead types ts None ts
  one_value : (x : Init) (inside us : List Sign) → ts ≡ equals ∷ inside → StandsEnded types inside x us → ValueRead types ts (Some x) us

-- the sign stands there, and no initialiser behind it
abbrev pub NoValue : List (List ℕ) → List Sign → Type 0
NoValue types ts = (inside : List Sign) × (ts ≡ equals ∷ inside) × ((x : Init) (us : List Sign) → StandsEnded types inside x us → ⊥)
