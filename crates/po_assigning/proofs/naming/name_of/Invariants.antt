use Rattle.std.proofs.Common.{◌≡◌, ℕ, List, Bool}
use Rattle.po_lowering.specs.Naming.{assigned}
use Rattle.po_assigning.proofs.naming.name_of.Given as goal

abbrev pub invariant-loop-inner : goal.invariant-loop-inner
invariant-loop-inner l = (p : List ℕ → Bool) → (assigned p l.inner).is ≡ (assigned p l.x).is
