use Rattle.po_types.proofs.FormatsRead.{IsReadUpTo}
use Rattle.std.proofs.Common.{length}
use Rattle.po_types.proofs.format.format_of.Given as goal

abbrev pub invariant-loop-rest : goal.invariant-loop-rest
invariant-loop-rest l = IsReadUpTo l.fn.target l.format l.specs l.rest

abbrev pub decreases-loop-rest : goal.decreases-loop-rest
decreases-loop-rest l = length l.rest
