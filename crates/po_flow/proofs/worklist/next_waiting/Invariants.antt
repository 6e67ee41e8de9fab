use Rattle.po_flow.specs.Waiting.{AreIdleBefore}
use Rattle.po_flow.proofs.worklist.next_waiting.Given as goal

abbrev pub invariant-loop-at : goal.invariant-loop-at
invariant-loop-at l = AreIdleBefore l.nodes l.waiting l.at
