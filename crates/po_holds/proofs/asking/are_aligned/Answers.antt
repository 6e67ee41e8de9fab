use Rattle.std.proofs.Common.{◌≤◌, arith}
use Rattle.std.proofs.lemmas.Int.{ints}
use Rattle.po_holds.proofs.Chosen.{through}
use Rattle.po_holds.proofs.Aligned as aligned
use Rattle.po_holds.proofs.asking.are_aligned.Goals as goal

pub returns-then-at : goal.returns-then-at
returns-then-at c =
    let within : c.args.align ≤ c.args.c.now.align = omega (arith, c.if-c-align.false) in
    through (aligned.is_one c.args.align) (aligned.more_aligned c.args.at.now c.args.align c.args.c.now (omega (arith, ints, c.if-at.true)) within)

pub returns : goal.returns
returns c =
    let within : c.args.align ≤ c.args.c.now.align = omega (arith, c.if-c-align.false) in
    through c.is_multiple.ensures (aligned.one_aligned c.args.at.now c.args.align c.args.c.now c.requires (omega (arith, ints, c.if-at.false)) within)
