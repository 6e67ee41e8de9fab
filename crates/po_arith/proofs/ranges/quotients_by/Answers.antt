use Rattle.std.proofs.Common.{rules, ap, FitsSigned, arith}
use Rattle.std.specs.Prelude.{int_div}
use Rattle.std.specs.Int.{w128}
use Rattle.std.proofs.lemmas.Int.{to_z-of_z, ints}
use Rattle.std.specs.Prelude.{Some}
use Rattle.po_arith.proofs.Sizes.{quotient_fits}
use Rattle.po_arith.proofs.ranges.quotients_by.Goals as goal

pub returns : goal.returns
returns c =
    let r_lo : FitsSigned w128 c.args.r.now.lo = search rules in
    let r_hi : FitsSigned w128 c.args.r.now.hi = search rules in
    let s_lo : FitsSigned w128 c.args.s.now.lo = search rules in
    let s_hi : FitsSigned w128 c.args.s.now.hi = search rules in
    let r_low = c.requires.r.low in
    let r_up = c.requires.r.up in
    let r_high = c.requires.r.high in
    let ll : FitsSigned w128 (int_div c.args.r.now.lo c.args.s.now.lo) = quotient_fits c.args.r.now.lo c.args.s.now.lo (omega (arith, ints)) (omega (arith, ints)) in
    let lh : FitsSigned w128 (int_div c.args.r.now.lo c.args.s.now.hi) = quotient_fits c.args.r.now.lo c.args.s.now.hi (omega (arith, ints)) (omega (arith, ints)) in
    let hl : FitsSigned w128 (int_div c.args.r.now.hi c.args.s.now.lo) = quotient_fits c.args.r.now.hi c.args.s.now.lo (omega (arith, ints)) (omega (arith, ints)) in
    let hh : FitsSigned w128 (int_div c.args.r.now.hi c.args.s.now.hi) = quotient_fits c.args.r.now.hi c.args.s.now.hi (omega (arith, ints)) (omega (arith, ints)) in
    let all = simp to_z-of_z at c.corners.ensures in
    ap Some all
