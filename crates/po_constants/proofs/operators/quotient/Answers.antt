use Rattle.std.proofs.Common.{rules, FitsSigned, ap, of_z}
use Rattle.std.specs.Prelude.{pos, ◌≢◌}
use Rattle.std.specs.Int.{w128}
use Rattle.std.proofs.lemmas.Int.{to_z-of_z}
use Rattle.po_arith.proofs.Sizes.{of_type_small}
use Rattle.po_constants.proofs.Results.{finds_quotient, no_quotient, is_zero}
use Rattle.po_constants.proofs.operators.quotient.Goals as goal

pub returns-then-w-eq0 : goal.returns-then-w-eq0
returns-then-w-eq0 c = λ r h. no_quotient c.args.t c.args.v c.args.w r (is_zero c.args.w c.ranges.w c.if-w-eq0.true) h

pub div_trunc-requires-clause-a : goal.div_trunc-requires-clause-a
div_trunc-requires-clause-a c =
    let v = c.ranges.v in
    simp to_z-of_z (of_type_small c.args.t c.args.v c.requires.t c.requires.v)

pub returns : goal.returns
returns c =
    let v = c.ranges.v in
    let w = c.ranges.w in
    let q : FitsSigned w128 c.div_trunc.result = search rules in
    let other : c.args.w ≢ pos 0 = λ e. c.if-w-eq0.false (ap (of_z w128) e) in
    let value = simp to_z-of_z at c.div_trunc.ensures in
    let kept = simp to_z-of_z at c.kept.ensures.exact in
    finds_quotient c.args.t c.args.v c.args.w c.kept.result other (rw (← value) kept)
