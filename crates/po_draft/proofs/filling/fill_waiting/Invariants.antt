use Rattle.std.proofs.Common.{length}
use Rattle.po_draft.specs.Waiting.{IsBeingFilled}
use Rattle.po_draft.proofs.filling.fill_waiting.Given as goal

abbrev pub invariant-loop-i : goal.invariant-loop-i
invariant-loop-i l = IsBeingFilled l.fn.from l.label.0 l.place.0 l.initial.nodes.items l.nodes.items l.waiting

abbrev pub decreases-loop-i : goal.decreases-loop-i
decreases-loop-i l = length l.waiting
