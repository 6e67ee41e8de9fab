use Rattle.po_memory.specs.Walking.{HaveValuesFrom}
use Rattle.po_memory.proofs.block.have_values.Given as goal

abbrev pub invariant-loop-i : goal.invariant-loop-i
invariant-loop-i l = HaveValuesFrom l.fn.start l.i l.bytes
