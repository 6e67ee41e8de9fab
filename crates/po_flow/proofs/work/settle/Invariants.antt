use Rattle.po_flow.specs.Working.{IsUnderWay}
use Rattle.po_flow.proofs.Settling.{left}
use Rattle.po_flow.proofs.work.settle.Given as goal

abbrev pub invariant-loop-n : goal.invariant-loop-n
invariant-loop-n g l = IsUnderWay (g.F.Flow.meaning l.flow) (g.F.Flow.proper l.flow) l.initial.work.table l.work l.steps

abbrev pub decreases-loop-n : goal.decreases-loop-n
decreases-loop-n g l = left (g.F.Flow.meaning l.flow) l.work
