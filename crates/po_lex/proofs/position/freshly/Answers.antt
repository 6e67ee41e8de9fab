use Rattle.std.proofs.Common.{◌≡◌, ◌-◌, true, false, ◌∙◌, sym, refl, arith, get_or, ℕ, ne_eqb}
use Rattle.po_lex.specs.Bytes.{is_gap}
use Rattle.po_lex.proofs.Lines.{freshly_at}
use Rattle.po_lex.proofs.position.freshly.Goals as goal

pub returns-then-byte-eq10 : goal.returns-then-byte-eq10
returns-then-byte-eq10 c =
    sym (sym c.loop-end.invariant.same ∙ freshly_at c.args.fresh c.args.text.now c.loop-end.end c.loop-end-test.true c.loop-end.invariant.within ∙ rw c.if-byte-eq10.true refl)

pub returns-then-not-is_gap : goal.returns-then-not-is_gap
returns-then-not-is_gap c =
    let byte : ℕ = get_or c.args.text.now (c.loop-end.end - 1) 0 in
    let gap : is_gap byte ≡ false = sym c.is_gap.ensures ∙ c.if-not-is_gap.true in
    sym (sym c.loop-end.invariant.same ∙ freshly_at c.args.fresh c.args.text.now c.loop-end.end c.loop-end-test.true c.loop-end.invariant.within ∙
    rw (ne_eqb byte 10 c.if-byte-eq10.false, gap) refl)

pub loop-end-preserved : goal.loop-end-preserved
loop-end-preserved c =
    let byte : ℕ = get_or c.args.text.now (c.loop-end.end - 1) 0 in
    let gap : is_gap byte ≡ true = sym c.is_gap.ensures ∙ c.if-not-is_gap.false in
    record {
      within = omega (arith, c.loop-end.invariant.within);
      same = sym (freshly_at c.args.fresh c.args.text.now c.loop-end.end c.loop-end-test.true c.loop-end.invariant.within ∙ rw (ne_eqb byte 10 c.if-byte-eq10.false, gap) refl) ∙ c.loop-end.invariant.same;
    }
