use Rattle.std.proofs.Common.{rules, ◌≡◌, arith, FitsSigned, to_z-of_z}
use Rattle.std.specs.Prelude.{◌+ℤ◌}
use Rattle.std.specs.Int.{int_shr, w128}
use Rattle.std.proofs.lemmas.Int.{ints}
use Rattle.po_holds.proofs.Sums.{sign_of}
use Rattle.po_holds.proofs.exact.is_below_zero.Goals as goal

pub returns : goal.returns
returns c =
    let fits : FitsSigned w128 c.carried.result = search rules in
    let fits_b : FitsSigned w128 c.carried-b.result = search rules in
    let fits_c : FitsSigned w128 c.carried-c.result = search rules in
    let fits_d : FitsSigned w128 c.carried-d.result = search rules in
    let b : c.carried-b.result ≡ c.args.s.now.b +ℤ int_shr c.args.s.now.a 48 = c.carried-b.ensures in
    let g : c.carried-c.result ≡ c.args.s.now.c +ℤ int_shr c.carried-b.result 48 = simp to_z-of_z at c.carried-c.ensures in
    let d : c.carried-d.result ≡ c.args.s.now.d +ℤ int_shr c.carried-c.result 48 = simp to_z-of_z at c.carried-d.ensures in
    let e : c.carried.result ≡ c.args.s.now.e +ℤ int_shr c.carried-d.result 48 = simp to_z-of_z at c.carried.ensures in
    let sign = sign_of c.args.s.now.a c.args.s.now.b c.args.s.now.c c.args.s.now.d c.args.s.now.e c.carried-b.result c.carried-c.result c.carried-d.result c.carried.result b g d e in
    simp to_z-of_z (λ h. sign.1 (grind (arith, ints)), λ h. let below = sign.0 h in grind (arith, ints))
