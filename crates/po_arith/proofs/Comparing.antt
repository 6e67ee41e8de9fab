-- What a comparison tells of whole numbers.
use Rattle.std.proofs.Common.{◌≡◌, true, false, arith}
use Rattle.std.specs.Prelude.{ℤ, ◌≤ℤ◌, ◌<ℤ◌, int_le}
use Rattle.std.proofs.lemmas.Int.{ints}

pub le_tells : (x y : ℤ) → int_le x y ≡ true → x ≤ℤ y
le_tells x y test = grind (arith, ints)

pub le_since : (x y : ℤ) → x ≤ℤ y → int_le x y ≡ true
le_since x y up = grind (arith, ints)

pub le_false : (x y : ℤ) → int_le x y ≡ false → y <ℤ x
le_false x y test = grind (arith, ints)
