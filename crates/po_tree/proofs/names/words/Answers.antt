use Rattle.std.proofs.Common.{sym, take_all}
use Rattle.po_tree.proofs.Sets.{adds_none}
use Rattle.po_tree.proofs.Gathered.{some_none, adds_more}
use Rattle.po_tree.proofs.names.words.Goals as goal

pub loop-part-init : goal.loop-part-init
loop-part-init c = rw c.new-words.ensures (adds_none _ (λ x h. some_none _ h))

pub loop-part-preserved : goal.loop-part-preserved
loop-part-preserved c =
    adds_more c.loop-part.part-index c.args.parts.now c.part-item.result c.loop-part-test.true c.part-item.is c.loop-part.invariant c.in_ok-add_tag.ensures

pub returns : goal.returns
returns c = rw (sym (take_all c.loop-part.part-index c.args.parts.now c.loop-part-test.false)) c.loop-part.invariant
