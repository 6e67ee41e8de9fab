use Rattle.std.proofs.Common.{FitsSigned, arith}
use Rattle.std.specs.Prelude.{pos, ◌-ℤ◌}
use Rattle.std.specs.Int.{w128}
use Rattle.std.proofs.lemmas.Int.{to_z-of_z, ints}
use Rattle.std.proofs.Common.{◌^◌}
use Rattle.std.proofs.lemmas.Nat.{pow_below, pow_pos}
use Rattle.po_arith.specs.Bits.{bits_of}
use Rattle.po_arith.proofs.BitsNeeded.{bits_few}
use Rattle.po_arith.proofs.Powers.{power_is}
use Rattle.po_arith.proofs.Sizes.{fits_wide}
use Rattle.po_arith.proofs.bitwise.filled.Goals as goal

pub overflow_shl-result : goal.overflow_shl-result
overflow_shl-result c =
    let fits = c.ranges.v in
    let zeros = simp to_z-of_z at c.leading_zeros.ensures in
    let few = bits_few c.args.v c.requires.low c.requires.high in
    rw zeros (omega arith)

pub overflow_sub-result-2 : goal.overflow_sub-result-2
overflow_sub-result-2 c =
    let fits = c.ranges.v in
    let zeros = simp to_z-of_z at c.leading_zeros.ensures in
    let few = bits_few c.args.v c.requires.low c.requires.high in
    let below = pow_below (bits_of c.args.v) 120 (omega arith) in
    rw (zeros, power_is (bits_of c.args.v) few) (fits_wide _ (omega (arith, ints)) (omega (arith, ints)))

pub returns : goal.returns
returns c =
    let fits = c.ranges.v in
    let zeros = simp to_z-of_z at c.leading_zeros.ensures in
    let few = bits_few c.args.v c.requires.low c.requires.high in
    let below = pow_below (bits_of c.args.v) 120 (omega arith) in
    let some = pow_pos (bits_of c.args.v) in
    let whole : FitsSigned w128 (pos (2 ^ bits_of c.args.v) -ℤ pos 1) = fits_wide _ (omega (arith, ints)) (omega (arith, ints)) in
    rw (zeros, power_is (bits_of c.args.v) few, to_z-of_z w128 _ whole) (omega (arith, ints))
