use Rattle.std.proofs.Common.{◌↔◌}
use Rattle.po_typed.specs.BaseTypes.{ArePointers}
use Rattle.po_specified.proofs.declarators.are_pointers.Given as goal

abbrev pub invariant-loop-inner : goal.invariant-loop-inner
invariant-loop-inner l = ArePointers l.fn.t ↔ ArePointers l.inner
