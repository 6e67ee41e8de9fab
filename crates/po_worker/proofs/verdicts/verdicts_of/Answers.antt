use Rattle.po_worker.proofs.Handed.{judged_more}
use Rattle.po_worker.proofs.verdicts.verdicts_of.Goals as goal

pub loop-k-preserved : goal.loop-k-preserved
loop-k-preserved g c = judged_more g.J.Naming.book c.args.t.now c.loop-k.t c.verdict.new.self c.loop-k.k c.in_ok-verdict.verdict c.loop-k.verdicts.items c.push.new.self.items c.loop-k.invariant.0 c.verdict.ensures.same c.in_ok-verdict.ensures.value c.loop-k.invariant.1 c.in-Ok.ensures.items
