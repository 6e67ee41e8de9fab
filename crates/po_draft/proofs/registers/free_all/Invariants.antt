use Rattle.std.proofs.Common.{length, ◌-◌}
use Rattle.po_draft.proofs.Kept.{IsFreedTo}
use Rattle.po_draft.proofs.registers.free_all.Given as goal

abbrev pub invariant-loop-k : goal.invariant-loop-k
invariant-loop-k l = IsFreedTo l.k l.initial.kinds.items l.kinds.items

abbrev pub decreases-loop-k : goal.decreases-loop-k
decreases-loop-k l = length l.kinds.items - l.k
