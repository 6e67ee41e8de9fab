use Rattle.std.proofs.Common.{ℕ, ◌<◌}
use Rattle.std.specs.Prelude.{pos, ◌≤ℤ◌, ◌<ℤ◌, ◌≢◌, Some, slice_get}
use Rattle.po_memory.specs.declared.value.Byte.TheVariants as byte
use Rattle.po_holds.specs.Asking.{place_of}
use Rattle.po_holds.proofs.asking.have_values.Given as goal

abbrev pub invariant-loop-i : goal.invariant-loop-i
invariant-loop-i l = (j : ℕ) → j < l.i → place_of l.from ≤ℤ pos j → pos j <ℤ place_of l.to → slice_get l.bytes j ≢ Some byte.Blank
