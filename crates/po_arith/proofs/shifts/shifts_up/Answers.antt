use Rattle.std.proofs.Common.{rules, ◌≡◌, true, sym, FitsSigned, arith}
use Rattle.std.specs.Prelude.{ℤ, Some, None, pos, int_le}
use Rattle.std.specs.Int.{int_max}
use Rattle.std.proofs.lemmas.Bool.{cond-true}
use Rattle.po_arith.specs.declared.range.Range.{Range}
use Rattle.po_arith.specs.Ranges.{range, shifted_up, shifts_up}
use Rattle.std.specs.Int.{w128}
use Rattle.std.proofs.lemmas.Int.{to_z-of_z, ints}
use Rattle.po_arith.proofs.shifts.shifts_up.Goals as goal

shifts_is : (r s : Range) (lo hi most : ℤ) → int_le (pos 0) r.hi ≡ true → most ≡ int_max r.lo (pos 0) → lo ≡ shifted_up most s.lo → hi ≡ shifted_up r.hi s.hi → Some (range lo hi) ≡ shifts_up r s
shifts_is r s lo hi most test most_is lo_is hi_is = rw (lo_is, hi_is, most_is) (sym (cond-true (int_le (pos 0) r.hi) (Some (range (shifted_up (int_max r.lo (pos 0)) s.lo) (shifted_up r.hi s.hi))) None test))

pub returns : goal.returns
returns c =
    let r_lo : FitsSigned w128 c.args.r.now.lo = search rules in
    let r_hi : FitsSigned w128 c.args.r.now.hi = search rules in
    let s_lo : FitsSigned w128 c.args.s.now.lo = search rules in
    let s_hi : FitsSigned w128 c.args.s.now.hi = search rules in
    let max_fits : FitsSigned w128 c.max.result = search rules in
    let low_fits : FitsSigned w128 c.shifted_up.result = search rules in
    let high_fits : FitsSigned w128 c.shifted_up-2.result = search rules in
    let low = simp to_z-of_z at c.shifted_up.ensures in
    let high = simp to_z-of_z at c.shifted_up-2.ensures in
    let most = simp to_z-of_z at c.max.ensures.value in
    let test = simp to_z-of_z at c.if-r-lt0.false in
    let up : int_le (pos 0) c.args.r.now.hi ≡ true = grind (arith, ints) in
    simp to_z-of_z (shifts_is c.args.r.now c.args.s.now c.shifted_up.result c.shifted_up-2.result c.max.result up most low high)
