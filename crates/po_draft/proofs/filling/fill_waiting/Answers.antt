use Rattle.std.proofs.Common.{subst, sym}
use Rattle.po_draft.specs.Waiting.{IsBeingFilled}
use Rattle.po_draft.proofs.Waits.{being_more}
use Rattle.po_draft.proofs.filling.fill_waiting.Goals as goal

pub loop-i-preserved : goal.loop-i-preserved
loop-i-preserved c =
    let last = c.in-Some.ensures _ c.loop-i.invariant.rising in
    being_more c.args.from c.in-Some.i c.args.label.0 c.args.place.0 _ _ _ _ _ c.requires.different c.loop-i.invariant last.0 last.1 c.fill_at.ensures

pub returns : goal.returns
returns c =
    let rest = c.in_default.ensures _ c.loop-i.invariant.rising in
    record { being = subst (IsBeingFilled c.args.from c.args.label.0 c.args.place.0 c.args.nodes.now.items c.loop-i.nodes.items) (sym rest.1) c.loop-i.invariant; none_left = rest.0 }
