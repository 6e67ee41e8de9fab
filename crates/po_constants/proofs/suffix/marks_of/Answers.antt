use Rattle.std.proofs.Common.{below_more, sym, ◌∙◌}
use Rattle.po_exp_parts.proofs.Among.{is_there, is_other, is_nowhere}
use Rattle.po_constants.proofs.Among.{is_row}
use Rattle.po_constants.proofs.suffix.marks_of.Goals as goal

pub returns-then-eq : goal.returns-then-eq
returns-then-eq c = record {
  among = is_there (λ r. r.0.now) _ _ _ _ c.loop-row-test.true (sym c.eq.ensures ∙ c.if-eq.true);
  row = is_row (λ r. r.0.now) (λ r. r.1) _ _ _ _ c.loop-row-test.true (sym c.eq.ensures ∙ c.if-eq.true);
}

pub loop-row-preserved : goal.loop-row-preserved
loop-row-preserved c =
    below_more _ _ c.loop-row.invariant (is_other (λ r. r.0.now) _ _ _ _ c.loop-row-test.true (sym c.eq.ensures ∙ c.if-eq.false))

pub returns-clause-among : goal.returns-clause-among
returns-clause-among c = λ h. is_nowhere (λ r. r.0.now) _ _ _ c.loop-row-test.false c.loop-row.invariant h
