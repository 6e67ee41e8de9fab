use Rattle.std.proofs.Common.{List, take, ◌++◌}
use Rattle.po_ir.specs.declared.project.Function.{Function}
use Rattle.po_link.specs.Noted.{AreSeen}
use Rattle.po_link.proofs.seen.note_functions.Given as goal

abbrev pub invariant-loop-function : goal.invariant-loop-function
invariant-loop-function l = (before : List Function) → AreSeen l.fn.seen before → AreSeen l.seen (before ++ take l.function-index l.functions)
