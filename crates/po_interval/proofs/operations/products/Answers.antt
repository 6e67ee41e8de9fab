use Rattle.std.proofs.Common.{rules, FitsSigned}
use Rattle.std.specs.Prelude.{◌*ℤ◌}
use Rattle.std.specs.Int.{w128}
use Rattle.std.proofs.lemmas.Int.{to_z-of_z}
use Rattle.po_interval.proofs.Machine.{saturated, corners_alike}
use Rattle.po_interval.proofs.operations.products.Goals as goal

pub returns : goal.returns
returns c =
    let r_lo : FitsSigned w128 c.args.r.now.lo = search rules in
    let r_hi : FitsSigned w128 c.args.r.now.hi = search rules in
    let s_lo : FitsSigned w128 c.args.s.now.lo = search rules in
    let s_hi : FitsSigned w128 c.args.s.now.hi = search rules in
    let fits_ll : FitsSigned w128 c.saturating_mul.result = search rules in
    let fits_lh : FitsSigned w128 c.saturating_mul-2.result = search rules in
    let fits_hl : FitsSigned w128 c.saturating_mul-3.result = search rules in
    let fits_hh : FitsSigned w128 c.saturating_mul-4.result = search rules in
    let ll = simp to_z-of_z at c.saturating_mul.ensures in
    let lh = simp to_z-of_z at c.saturating_mul-2.ensures in
    let hl = simp to_z-of_z at c.saturating_mul-3.ensures in
    let hh = simp to_z-of_z at c.saturating_mul-4.ensures in
    let all = simp to_z-of_z at c.corners.ensures in
    rw all (corners_alike
    c.saturating_mul.result c.saturating_mul-2.result c.saturating_mul-3.result c.saturating_mul-4.result
    (c.args.r.now.lo *ℤ c.args.s.now.lo) (c.args.r.now.lo *ℤ c.args.s.now.hi) (c.args.r.now.hi *ℤ c.args.s.now.lo) (c.args.r.now.hi *ℤ c.args.s.now.hi)
    (saturated c.saturating_mul.result (c.args.r.now.lo *ℤ c.args.s.now.lo) ll)
    (saturated c.saturating_mul-2.result (c.args.r.now.lo *ℤ c.args.s.now.hi) lh)
    (saturated c.saturating_mul-3.result (c.args.r.now.hi *ℤ c.args.s.now.lo) hl)
    (saturated c.saturating_mul-4.result (c.args.r.now.hi *ℤ c.args.s.now.hi) hh))
