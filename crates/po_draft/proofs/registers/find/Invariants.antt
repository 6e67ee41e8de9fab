use Rattle.std.proofs.Common.{◌≡◌, ◌≢◌, ◌<◌, ℕ}
use Rattle.std.specs.Prelude.{slice_get, Some}
use Rattle.po_draft.specs.declared.registers.Kind.{Kind}
use Rattle.po_draft.proofs.registers.find.Given as goal

abbrev pub invariant-loop-k : goal.invariant-loop-k
invariant-loop-k l = (j : ℕ) (kind : Kind) → j < l.k → slice_get l.kinds j ≡ Some kind → kind.ty ≢ l.ty
