-- Registers that hold ints, and those that hold the arguments.
use Rattle.std.proofs.Common.{◌≡◌, ◌≢◌, ℕ, zero, suc, ◌+◌, ◌<◌, List, [], ◌∷◌, ◌++◌, map, length, arith, get_or, set, refl, ◌∙◌}
use Rattle.std.specs.Prelude.{Option, Some, None, All, slice_get}
use Rattle.std.proofs.lemmas.List.{get_or-set_other}
use Rattle.std.proofs.lemmas.List.Elements.{All-head, All-tail}
use Rattle.po_app.specs.Meaning.{Value}
use Rattle.po_app.specs.Sound.{IsInt}

-- there is a value, and it is an int
abbrev pub IsIntAt : Option Value → Type 0
IsIntAt None = ⊥
IsIntAt (Some v) = IsInt v

-- the first k registers hold ints
abbrev pub Filled : ℕ → List (Option Value) → Type 0
Filled k regs = (r : ℕ) → r < k → IsIntAt (get_or regs r None)

-- the first k registers hold the first k arguments
abbrev pub HoldArguments : ℕ → List (Option Value) → List Value → Type 0
HoldArguments k regs args = (r : ℕ) → r < k → get_or regs r None ≡ slice_get args r

pub filled_start : (args : List Value) (rest : List (Option Value)) → All IsInt args → Filled (length args) (map Some args ++ rest)
filled_start [] rest all r h = absurd (omega arith)
filled_start (v ∷ vs) rest all zero h = All-head IsInt v vs all
filled_start (v ∷ vs) rest all (suc r) h = filled_start vs rest (All-tail IsInt v vs all) r (omega arith)

pub arguments_start : (args : List Value) (rest : List (Option Value)) → HoldArguments (length args) (map Some args ++ rest) args
arguments_start [] rest r h = absurd (omega arith)
arguments_start (v ∷ vs) rest zero h = refl
arguments_start (v ∷ vs) rest (suc r) h = arguments_start vs rest r (omega arith)

-- the next register gets an int
pub filled_more : (k : ℕ) (regs : List (Option Value)) (v : Value) → k < length regs → IsInt v → Filled k regs → Filled (k + 1) (set regs k (Some v))
filled_more k [] v h int below r low = absurd (omega arith)
filled_more zero (x ∷ xs) v h int below zero low = int
filled_more zero (x ∷ xs) v h int below (suc r) low = absurd (omega arith)
filled_more (suc k) (x ∷ xs) v h int below zero low = below 0 (omega arith)
filled_more (suc k) (x ∷ xs) v h int below (suc r) low = filled_more k xs v (omega arith) int (λ i l. below (suc i) (omega arith)) r (omega arith)

-- a later register gets a value
pub arguments_more : (params k : ℕ) (regs : List (Option Value)) (args : List Value) (v : Option Value) → HoldArguments params regs args → HoldArguments params (set regs (params + k) v) args
arguments_more params k regs args v h r low =
    let other : r ≢ params + k = λ same. absurd (omega (arith, same)) in
    get_or-set_other regs (params + k) r v None other ∙ h r low
