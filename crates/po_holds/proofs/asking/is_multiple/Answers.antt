use Rattle.std.proofs.Common.{rules, ◌≡◌, arith, FitsSigned, to_z-of_z}
use Rattle.std.specs.Prelude.{◌+ℤ◌}
use Rattle.std.specs.Int.{w128}
use Rattle.std.specs.Prelude.{unsigned_abs}
use Rattle.po_holds.proofs.Aligned.{zero_tells}
use Rattle.po_holds.proofs.asking.is_multiple.Goals as goal

pub returns-else-align-eq0 : goal.returns-else-align-eq0
returns-else-align-eq0 c =
    let fits_base : FitsSigned w128 c.args.base.now = search rules in
    let fits_moved : FitsSigned w128 c.args.moved.now = search rules in
    let base : c.unsigned_abs-in-None.result ≡ unsigned_abs c.args.base.now = simp to_z-of_z at c.unsigned_abs-in-None.ensures.value in
    let by : c.unsigned_abs-in-None-2.result ≡ unsigned_abs c.args.moved.now = simp to_z-of_z at c.unsigned_abs-in-None-2.ensures.value in
    let out : FitsSigned w128 (c.args.base.now +ℤ c.args.moved.now) → ⊥ = simp to_z-of_z at c.in-None.ensures in
    zero_tells c.args.align c.args.base.now c.args.moved.now _ _ base by (omega (arith, c.if-align-eq0.false)) fits_base fits_moved out
