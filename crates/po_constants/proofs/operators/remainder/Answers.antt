use Rattle.std.proofs.Common.{rules, FitsSigned}
use Rattle.std.specs.Int.{w128}
use Rattle.std.proofs.lemmas.Int.{to_z-of_z}
use Rattle.po_arith.proofs.Sizes.{of_type_small}
use Rattle.po_constants.proofs.Results.{finds_remainder, no_remainder, not_zero}
use Rattle.po_constants.proofs.operators.remainder.Goals as goal

pub returns-in-None : goal.returns-in-None
returns-in-None c =
    let v = c.ranges.v in
    let w = c.ranges.w in
    no_remainder c.args.t c.args.v c.args.w (simp to_z-of_z at c.in-None.ensures)

pub rem_trunc-requires-clause-a : goal.rem_trunc-requires-clause-a
rem_trunc-requires-clause-a c =
    let v = c.ranges.v in
    simp to_z-of_z (of_type_small c.args.t c.args.v c.requires.t c.requires.v)

pub rem_trunc-requires-clause-b : goal.rem_trunc-requires-clause-b
rem_trunc-requires-clause-b c =
    let v = c.ranges.v in
    let w = c.ranges.w in
    simp to_z-of_z (not_zero c.args.t c.args.v c.args.w _ (simp to_z-of_z at c.in-Some.ensures))

pub returns-in-Some : goal.returns-in-Some
returns-in-Some c =
    let v = c.ranges.v in
    let w = c.ranges.w in
    let q : FitsSigned w128 c.rem_trunc.result = search rules in
    let value = simp to_z-of_z at c.rem_trunc.ensures in
    let some = simp to_z-of_z at c.in-Some.ensures in
    let kept = simp to_z-of_z at c.kept.ensures.exact in
    finds_remainder c.args.t c.args.v c.args.w c.in-Some.field-0 c.kept.result some (rw (← value) kept)
