use Rattle.std.proofs.Common.{rules, FitsSigned, arith}
use Rattle.std.specs.Prelude.{◌-ℤ◌}
use Rattle.std.specs.Int.{w128}
use Rattle.std.proofs.lemmas.Int.{to_z-of_z, ints}
use Rattle.po_arith.proofs.Sizes.{fits_wide}
use Rattle.po_arith.proofs.ranges.differences.Goals as goal

pub returns : goal.returns
returns c =
    let r_lo : FitsSigned w128 c.args.r.now.lo = search rules in
    let r_hi : FitsSigned w128 c.args.r.now.hi = search rules in
    let s_lo : FitsSigned w128 c.args.s.now.lo = search rules in
    let s_hi : FitsSigned w128 c.args.s.now.hi = search rules in
    let r_low = c.requires.r.low in
    let r_up = c.requires.r.up in
    let r_high = c.requires.r.high in
    let s_low = c.requires.s.low in
    let s_up = c.requires.s.up in
    let s_high = c.requires.s.high in
    let low : FitsSigned w128 (c.args.r.now.lo -ℤ c.args.s.now.hi) = fits_wide _ (omega (arith, ints)) (omega (arith, ints)) in
    let high : FitsSigned w128 (c.args.r.now.hi -ℤ c.args.s.now.lo) = fits_wide _ (omega (arith, ints)) (omega (arith, ints)) in
    simp to_z-of_z
