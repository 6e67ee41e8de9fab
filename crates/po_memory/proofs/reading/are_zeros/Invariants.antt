use Rattle.std.proofs.Common.{ℕ, ◌<◌, ◌≡◌, Some}
use Rattle.std.specs.Prelude.{slice_get}
use Rattle.po_memory.specs.declared.value.Byte.TheVariants.{Number}
use Rattle.po_memory.proofs.reading.are_zeros.Given as goal

abbrev pub invariant-loop-i : goal.invariant-loop-i
invariant-loop-i l = (j : ℕ) → j < l.i → slice_get l.bytes j ≡ Some (Number 0)
