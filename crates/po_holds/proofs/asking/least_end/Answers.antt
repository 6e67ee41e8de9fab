use Rattle.std.proofs.Common.{rules, arith}
use Rattle.std.proofs.lemmas.Int.{ints}
use Rattle.std.specs.Prelude.{FitsSigned}
use Rattle.std.specs.Int.{w128}
use Rattle.std.proofs.lemmas.Int.{to_z-of_z}
use Rattle.po_holds.proofs.Asked.{least_low, least_high}
use Rattle.po_holds.proofs.asking.least_end.Goals as goal

pub returns-then-factor-lt0 : goal.returns-then-factor-lt0
returns-then-factor-lt0 c = let fits : FitsSigned w128 c.args.r.now.hi = search rules in simp to_z-of_z (least_high c.args.factor c.args.r.now c.requires (omega (arith, ints, c.if-factor-lt0.true)))

pub returns : goal.returns
returns c = let fits : FitsSigned w128 c.args.r.now.lo = search rules in simp to_z-of_z (least_low c.args.factor c.args.r.now c.requires (omega (arith, ints, c.if-factor-lt0.false)))
