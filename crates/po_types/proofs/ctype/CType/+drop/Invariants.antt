use Rattle.std.proofs.Common.{◌≤◌}
use Rattle.po_types.specs.declared.ctype.CType.{size-CType}
use Rattle.po_types.proofs.ctype.CType.+drop.Given as goal

abbrev pub invariant-loop-self : goal.invariant-loop-self
invariant-loop-self l = size-CType l.self ≤ size-CType l.fn.self
