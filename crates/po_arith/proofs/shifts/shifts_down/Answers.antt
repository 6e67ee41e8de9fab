use Rattle.std.proofs.Common.{rules, refl, FitsSigned}
use Rattle.std.specs.Int.{w128}
use Rattle.std.proofs.lemmas.Int.{to_z-of_z}
use Rattle.po_arith.proofs.shifts.shifts_down.Goals as goal

pub returns : goal.returns
returns c =
    let r_lo : FitsSigned w128 c.args.r.now.lo = search rules in
    let r_hi : FitsSigned w128 c.args.r.now.hi = search rules in
    let s_lo : FitsSigned w128 c.args.s.now.lo = search rules in
    let s_hi : FitsSigned w128 c.args.s.now.hi = search rules in
    let fits_ll : FitsSigned w128 c.shifted_down.result = search rules in
    let fits_lh : FitsSigned w128 c.shifted_down-2.result = search rules in
    let fits_hl : FitsSigned w128 c.shifted_down-3.result = search rules in
    let fits_hh : FitsSigned w128 c.shifted_down-4.result = search rules in
    let ll = simp to_z-of_z at c.shifted_down.ensures in
    let lh = simp to_z-of_z at c.shifted_down-2.ensures in
    let hl = simp to_z-of_z at c.shifted_down-3.ensures in
    let hh = simp to_z-of_z at c.shifted_down-4.ensures in
    let all = simp to_z-of_z at c.corners.ensures in
    rw (all, ll, lh, hl, hh) refl
