use Rattle.std.proofs.lemmas.Int.{to_z-of_z}
use Rattle.po_typed.specs.Constants.{it_holds, it_fails}
use Rattle.po_constants.proofs.operators.compares.Goals as goal

pub returns-then-holds : goal.returns-then-holds
returns-then-holds c =
    let v = c.ranges.v in
    let w = c.ranges.w in
    it_holds (simp to_z-of_z at c.if-holds.ensures)

pub returns-else-holds : goal.returns-else-holds
returns-else-holds c =
    let v = c.ranges.v in
    let w = c.ranges.w in
    it_fails (simp to_z-of_z at c.if-holds.ensures)
