use Rattle.std.proofs.Common.{◌≡◌, ℕ, ◌<◌, Some}
use Rattle.std.specs.Prelude.{slice_get}
use Rattle.po_core.specs.declared.event.Hand.{Hand}
use Rattle.ledger_tests.proofs.hands.any_held.Given as goal

abbrev pub invariant-loop-i : goal.invariant-loop-i
invariant-loop-i g l = (k : ℕ) (hand : Hand _) → k < l.i → slice_get l.hands k ≡ Some (Some hand) → ⊥
