use Rattle.std.proofs.Common.{arith, sym, ◌∙◌}
use Rattle.po_exp_parts.proofs.Escapes.{row_goes_on, row_ends, row_ends_all}
use Rattle.po_exp_parts.proofs.characters.row.Goals as goal

pub loop-left-preserved : goal.loop-left-preserved
loop-left-preserved c =
    let small = rw c.digit.ensures at c.if-digit-base.true in
    let longer = rw c.digit-in-loop-left.ensures at c.in_ok-value.ensures in
    let step = row_goes_on c.args.text.now c.args.base c.loop-left.value c.loop-left.end c.loop-left.left c.loop-left-test.true c.if-end-text.true small longer.0 in
    (omega arith, omega arith, rw longer.1 (step ∙ c.loop-left.invariant.2))

pub returns-else-digit-base-clause-exact : goal.returns-else-digit-base-clause-exact
returns-else-digit-base-clause-exact c =
    sym (row_ends c.args.text.now c.args.base c.loop-left.value c.loop-left.end c.loop-left.left c.if-end-text.true (rw (← c.digit.ensures) c.if-digit-base.false)) ∙ c.loop-left.invariant.2

pub returns-else-end-text-clause-exact : goal.returns-else-end-text-clause-exact
returns-else-end-text-clause-exact c =
    sym (row_ends_all c.args.text.now c.args.base c.loop-left.value c.loop-left.end c.loop-left.left c.if-end-text.false) ∙ c.loop-left.invariant.2
