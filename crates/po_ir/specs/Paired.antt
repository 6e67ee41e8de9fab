-- Two lists of marks as one list of effects.
use Rattle.std.specs.Prelude.{ℕ, ◌≡◌, List, Bool, Some, length, slice_get}
use Rattle.po_ir.specs.declared.project.Effects.{Effects}

-- the effects at each place are the marks at that place of both lists
pub record ArePaired (frees writes : List Bool) (effects : List Effects) : Type 0 where
  pub count : length effects ≡ length frees
  pub each : (f : ℕ) (e : Effects) → slice_get effects f ≡ Some e → (slice_get frees f ≡ Some e.frees) × (slice_get writes f ≡ Some e.writes)
