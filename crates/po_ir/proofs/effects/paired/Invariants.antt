use Rattle.std.proofs.Common.{◌≡◌, ℕ, length}
use Rattle.std.specs.Prelude.{Some, slice_get}
use Rattle.po_ir.specs.declared.project.Effects.{Effects}
use Rattle.po_ir.proofs.effects.paired.Given as goal

abbrev pub invariant-loop-place : goal.invariant-loop-place
invariant-loop-place l = record {
  count : length l.effects ≡ l.place;
  each : (f : ℕ) (e : Effects) → slice_get l.effects f ≡ Some e → (slice_get l.frees f ≡ Some e.frees) × (slice_get l.writes f ≡ Some e.writes);
}
