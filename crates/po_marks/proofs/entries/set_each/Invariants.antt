use Rattle.std.proofs.Common.{take}
use Rattle.po_marks.specs.Known.{SetsEach}
use Rattle.po_marks.proofs.entries.set_each.Given as goal

abbrev pub invariant-loop-o : goal.invariant-loop-o
invariant-loop-o g l = SetsEach (take l.o-index l.os) l.mark l.initial.known.entries l.known.entries
