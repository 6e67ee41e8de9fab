use Rattle.std.proofs.Common.{[]}
use Rattle.po_ir.specs.Leading.{start_of}
use Rattle.po_ir.proofs.General.{each_from-onto-at}
use Rattle.po_ir.proofs.reach.starting.Goals as goal

pub loop-place-preserved : goal.loop-place-preserved
loop-place-preserved c = record {
  marks = c.loop-place.invariant.marks;
  stack = each_from-onto-at start_of _ _ _ _ [] _ _ c.loop-place-test.true c.in_ok-counted.ensures c.loop-place.invariant.stack c.in_ok-add_marked.ensures;
}
