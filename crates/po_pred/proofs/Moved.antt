-- Numbers added to those of a place.
use Rattle.std.proofs.Common.{◌^◌, arith, FitsSigned}
use Rattle.std.specs.Prelude.{ℤ, ◌+ℤ◌, ◌≤ℤ◌, ◌<ℤ◌, pos, negsuc, neg_ℤ}
use Rattle.std.specs.Int.{w128}
use Rattle.std.proofs.lemmas.Int.{ints}
use Rattle.po_pred.specs.Subst.{IsCounted}

between_fits : (z : ℤ) → neg_ℤ (pos (2 ^ 127)) ≤ℤ z → z <ℤ pos (2 ^ 127) → FitsSigned w128 z
between_fits (pos n) low high = record { sfits = omega (arith, ints) }
between_fits (negsuc n) low high = record { sfits = omega (arith, ints) }

pub counted_fits : (v : ℤ) → IsCounted v → FitsSigned w128 v
counted_fits v counted = let low = counted.0 in let high = counted.1 in between_fits v (omega (arith, ints)) (omega (arith, ints))

pub sum_fits : (v n : ℤ) → IsCounted v → IsCounted n → FitsSigned w128 (v +ℤ n)
sum_fits v n v_counted n_counted =
    let v_low = v_counted.0 in
    let v_high = v_counted.1 in
    let n_low = n_counted.0 in
    let n_high = n_counted.1 in
    between_fits (v +ℤ n) (omega (arith, ints)) (omega (arith, ints))
