use Rattle.po_worker.proofs.Draining.{extends_none, extends_twice}
use Rattle.po_worker.proofs.alone.solve_alone.Goals as goal

pub loop-preserved : goal.loop-preserved
loop-preserved g c = ((c.in_ok-solve_file.ensures.more c.if-branch.true).0, extends_twice _ _ _ c.loop.invariant.1 c.in_ok-solve_file.ensures.journal)
