use Rattle.std.proofs.Common.{◌∙◌, inl, inr}
use Rattle.po_bases.proofs.Ends.{common_ends}
use Rattle.po_bases.proofs.common.common.Goals as goal
use Rattle.po_bases.proofs.common.common.Goals.{then-loop-i-test+else-j-ys, else-loop-i-test}

pub returns : goal.returns
returns c =
    common_ends c.loop-i.list c.args.xs.now c.args.ys.now c.loop-i.i c.loop-i.j
    (elim c.loop-i-test.branch [ then-loop-i-test+else-j-ys w ↦ inr w.if-j-ys.false | else-loop-i-test w ↦ inl w.loop-i-test.false ])
    ∙ c.loop-i.invariant.rest
