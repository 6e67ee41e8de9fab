-- What leads to marked functions over lists of callers.
use Rattle.std.specs.Prelude.{ℕ, ◌≡◌, ◌≢◌, ◌<◌, ◌++◌, ◌↔◌, ◌⊎◌, List, Bool, true, false, [], ◌∷◌, cond, Some, Contains, length, map, slice_get, slice_set}
use Rattle.po_base.specs.declared.numbers.FunNo.{FunNo}
use Rattle.po_base.specs.declared.numbers.NodeNo.{NodeNo}
use Rattle.po_ir.specs.Callers.{Sites}

-- Leads callers here f: f is marked, or is among the callers of what leads
pub data Leads (callers : List Sites) (here : List Bool) : ℕ → Type 0 where
  itself : (f : ℕ) → slice_get here f ≡ Some true → Leads callers here f
  through : (f g : ℕ) (sites : Sites) (n : NodeNo) → slice_get callers g ≡ Some sites → Contains sites (record { 0 = f }, n) → Leads callers here g → Leads callers here f

-- one mark for each function, which tells whether it leads
pub record AreLeading (callers : List Sites) (here marks : List Bool) : Type 0 where
  pub count : length marks ≡ length here
  pub each : (f : ℕ) → f < length here → (slice_get marks f ≡ Some true) ↔ Leads callers here f

-- the functions that are marked, one after the other
abbrev pub start_of : ℕ → Bool → List FunNo
start_of f mark = cond mark (record { 0 = f } ∷ []) []

abbrev pub caller_of : FunNo × NodeNo → FunNo
caller_of site = site.0

-- a function is visited: it was marked before or isn't there, and nothing changes
pub record Skips (fun : FunNo) (before after : List Bool) (stack left : List FunNo) : Type 0 where
  pub known : slice_get before fun.0 ≢ Some false
  pub same : after ≡ before
  pub stays : left ≡ stack

-- or it is marked now, and its callers are still to be visited
pub record Marks (callers : List Sites) (fun : FunNo) (before after : List Bool) (stack left : List FunNo) : Type 0 where
  pub sites : Sites
  pub listed : slice_get callers fun.0 ≡ Some sites
  pub unknown : slice_get before fun.0 ≡ Some false
  pub marked : after ≡ slice_set before fun.0 true
  pub pushed : left ≡ stack ++ map caller_of sites

abbrev pub Visits : List Sites → FunNo → List Bool → List Bool → List FunNo → List FunNo → Type 0
Visits callers fun before after stack left = Skips fun before after stack left ⊎ Marks callers fun before after stack left
