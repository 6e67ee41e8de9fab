use Rattle.std.proofs.Common.{rules, FitsSigned}
use Rattle.std.specs.Int.{w128}
use Rattle.std.proofs.lemmas.Int.{to_z-of_z}
use Rattle.po_interval.proofs.Searched.{last_found, none_up_to}
use Rattle.po_interval.proofs.rounding.greatest_to.Goals as goal

pub returns-in-Some : goal.returns-in-Some
returns-in-Some c =
    let v = c.ranges.v in
    let x : FitsSigned w128 c.in-Some.x.now = search rules in
    let range = simp to_z-of_z at c.range.ensures.between in
    simp to_z-of_z (last_found c.args.numbers.now c.args.v c.in-Some.x.now c.range.result c.next_back.new.self (range tt) c.in-Some.ensures.steps)

pub returns-in-None : goal.returns-in-None
returns-in-None c =
    let v = c.ranges.v in
    let range = simp to_z-of_z at c.range.ensures.between in
    none_up_to c.args.numbers.now c.args.v c.range.result (range tt) c.in-None.ensures.steps.0
