use Rattle.std.proofs.Common.{arith}
use Rattle.po_io.proofs.Adding.{adds_more, within}
use Rattle.po_io.proofs.writing.write_all.Goals as goal

pub loop-at-preserved : goal.loop-at-preserved
loop-at-preserved g c = record {
  within = within c.loop-at.at c.in_ok-at.field-0 c.args.bytes.now c.loop-at.invariant.within c.in_ok-at.ensures.bound;
  written = adds_more _ _ _ c.args.bytes.now c.loop-at.at c.in_ok-at.field-0 c.loop-at.invariant.written c.in_ok-at.ensures.written;
  counts = omega (arith, c.loop-at.invariant.counts, c.in_ok-at.ensures.counts);
}
