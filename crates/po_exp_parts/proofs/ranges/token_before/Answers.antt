use Rattle.std.proofs.Common.{ap, arith, length}
use Rattle.po_exp_parts.proofs.RangePlaces.{first_at, none_at, none_past}
use Rattle.po_exp_parts.proofs.ranges.token_before.Goals as goal

pub returns-then-at-to-clause-first : goal.returns-then-at-to-clause-first
returns-then-at-to-clause-first c = none_at c.args.tokens.now.list c.args.at c.args.to c.if-at-to.true

pub returns-then-place-all-clause-first : goal.returns-then-place-all-clause-first
returns-then-place-all-clause-first c = none_past c.args.tokens.now.list c.args.at c.args.to (omega (arith, c.if-place-all.true, ap length c.as_slice-all.ensures))

pub returns-clause-first : goal.returns-clause-first
returns-clause-first c =
    first_at c.args.tokens.now.list c.args.at c.args.to _ (omega (arith, c.if-at-to.false)) (omega (arith, c.if-place-all.false, ap length c.as_slice-all.ensures))
    (rw c.as_slice-all.ensures at c.index-all-place.is)
