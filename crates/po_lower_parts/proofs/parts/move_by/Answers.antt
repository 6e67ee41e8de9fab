use Rattle.std.proofs.Common.{refl, ap, ◌∙◌}
use Rattle.po_draft.specs.Sketches.{with_node}
use Rattle.po_lower_parts.proofs.Rules.{move_nowhere, move_further}
use Rattle.po_lower_parts.proofs.parts.move_by.Goals as goal

pub returns-then-offset-eq0 : goal.returns-then-offset-eq0
returns-then-offset-eq0 c = move_nowhere _ _ c.args.spot.now c.args.offset c.args.v refl c.if-offset-eq0.true

pub returns : goal.returns
returns c =
    move_further _ _ _ c.args.spot.now c.args.offset c.args.v c.in_ok-r.r.0 c.if-offset-eq0.false c.in_ok-r.ensures.takes c.in_ok-r.ensures.nodes
    (c.in_ok-push.ensures ∙ ap (λ i. with_node i c.args.spot.now c.take.new.self) c.moved-instr.ensures)
