use Rattle.std.proofs.Common.{◌∙◌}
use Rattle.po_step.proofs.Numbering.{one_more}
use Rattle.po_step.proofs.asking.numbered.Goals as goal

pub loop-predicate-preserved : goal.loop-predicate-preserved
loop-predicate-preserved c =
    c.in_ok-push.ensures.ok
    ∙ one_more c.args.f c.args.n c.args.predicates.now c.loop-predicate.predicate-index c.in_ok-place.field-0 c.loop-predicate.list _ c.loop-predicate-test.true c.loop-predicate.invariant (c.in_ok-place.ensures ∙ c.len.ensures)
