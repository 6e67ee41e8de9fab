use Rattle.std.proofs.Common.{◌∙◌}
use Rattle.po_operate.proofs.Bytes.{pasted_next}
use Rattle.po_operate.proofs.accesses.write.Goals as goal

pub loop-i-preserved : goal.loop-i-preserved
loop-i-preserved c = c.set.ensures ∙ pasted_next c.args.bytes.now c.args.new.now c.loop-i.bytes c.args.start c.loop-i.i _ c.loop-i-test.true c.requires c.loop-i.invariant
