use Rattle.std.proofs.Common.{List, take, ◌++◌}
use Rattle.po_ir.specs.declared.unit.LibUse.{LibUse}
use Rattle.po_link.specs.Noted.{AreNoted}
use Rattle.po_link.proofs.seen.note_libs.Given as goal

abbrev pub invariant-loop-used : goal.invariant-loop-used
invariant-loop-used l = (before : List LibUse) → AreNoted l.fn.noted before → AreNoted l.noted (before ++ take l.used-index l.libs)
