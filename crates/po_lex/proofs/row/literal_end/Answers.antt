use Rattle.std.proofs.Common.{◌≡◌, true, get_or, arith, sym, ◌∙◌}
use Rattle.po_lex.specs.Rows.{goes_on}
use Rattle.po_lex.proofs.Rows.{front_more, skip_on}
use Rattle.po_lex.specs.declared.row.Row.TheVariants as r
use Rattle.po_lex.proofs.row.literal_end.Goals as goal

pub loop-end-preserved : goal.loop-end-preserved
loop-end-preserved c =
    let on : goes_on (r.Literal c.args.quote) c.loop-end.before (get_or c.args.bytes.now c.loop-end.end 0) ≡ true = sym c.goes_on.ensures ∙ c.if-not-goes_on.false in
    rw c.behind-before.ensures (record {
      after = omega arith;
      within = omega arith;
      front = front_more (r.Literal c.args.quote) c.loop-end.before _ _ _ _ c.loop-end.invariant.after c.loop-end-test.true on c.loop-end.invariant.front;
      rest = sym (skip_on (r.Literal c.args.quote) c.loop-end.before _ _ c.loop-end-test.true on) ∙ c.loop-end.invariant.rest;
    })
