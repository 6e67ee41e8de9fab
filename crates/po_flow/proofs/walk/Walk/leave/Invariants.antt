use Rattle.std.proofs.Common.{length}
use Rattle.po_flow.proofs.walk.Walk.leave.Given as goal

abbrev pub decreases-loop-n : goal.decreases-loop-n
decreases-loop-n l = length l.self.path
