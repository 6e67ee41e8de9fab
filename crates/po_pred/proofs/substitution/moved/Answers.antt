use Rattle.std.proofs.Common.{refl, subst}
use Rattle.std.proofs.lemmas.Int.{to_z-of_z}
use Rattle.po_pred.specs.Subst.{IsCountedOperand}
use Rattle.po_pred.proofs.Moved.{counted_fits, sum_fits}
use Rattle.po_pred.proofs.substitution.moved.Goals as goal

pub returns-in-Num : goal.returns-in-Num
returns-in-Num c =
    let counted = subst IsCountedOperand c.in-Num.is c.requires.argument in
    let number_fits = counted_fits c.in-Num.number counted in
    let lo_fits = counted_fits c.args.place.now.lo c.requires.low in
    let hi_fits = counted_fits c.args.place.now.hi c.requires.high in
    let lo_sum = sum_fits c.args.place.now.lo c.in-Num.number c.requires.low counted in
    let hi_sum = sum_fits c.args.place.now.hi c.in-Num.number c.requires.high counted in
    simp to_z-of_z (rw c.in-Num.is refl)
