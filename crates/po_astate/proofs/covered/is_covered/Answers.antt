use Rattle.std.proofs.Common.{◌∙◌, inl, inr}
use Rattle.po_astate.proofs.Ends.{covered_ends}
use Rattle.po_astate.proofs.covered.is_covered.Goals as goal
use Rattle.po_astate.proofs.covered.is_covered.Goals.{then-loop-i-test+else-j-ys, else-loop-i-test}

pub returns : goal.returns
returns g c =
    covered_ends g.E.Keyed.key_order g.E.Ordered.within c.args.xs.now c.args.ys.now c.loop-i.i c.loop-i.j c.loop-i.invariant.first
    (elim c.loop-i-test.branch [ then-loop-i-test+else-j-ys w ↦ inr w.if-j-ys.false | else-loop-i-test w ↦ inl w.loop-i-test.false ])
    ∙ c.loop-i.invariant.rest
