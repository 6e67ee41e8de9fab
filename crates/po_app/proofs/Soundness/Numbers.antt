-- The results of operators on numbers of the type int.
use Rattle.std.proofs.Common.{◌≢◌, ℕ, zero, suc, ◌*◌, ◌/◌, ◌%◌, ◌≤◌, ◌<◌, ◌^◌, refl, ap, arith}
use Rattle.std.specs.Prelude.{ℤ, pos, negsuc, neg_ℤ}
use Rattle.std.specs.Int.RustNames.{int_div, int_rem, unsigned_abs}
use Rattle.std.proofs.lemmas.Int.{ints}
use Rattle.std.proofs.lemmas.Nat.{div_below}
use native.Mathlib.Nat.{div-le_self, mod-le}
use Rattle.po_pred.specs.declared.pred.Over.TheVariants.{Div}
use Rattle.po_app.specs.Predicates.{IsOfType, Fits}

below_half : (n : ℕ) → n < 2147483648 → IsOfType 32 (pos n)
below_half n h = (omega (arith, ints), omega (arith, ints))

up_to_half : (n : ℕ) → n ≤ 2147483648 → IsOfType 32 (neg_ℤ (pos n))
up_to_half n h = (omega (arith, ints), omega (arith, ints))

pub constant_int : (n : ℕ) → n < 2 ^ 31 → IsOfType 32 (pos n)
constant_int n h = below_half n (omega arith)

size_up : (n : ℕ) → IsOfType 32 (pos n) → n < 2147483648
size_up n h = let high = h.1 in omega (arith, ints)

size_down : (n : ℕ) → IsOfType 32 (negsuc n) → suc n ≤ 2147483648
size_down n h = let low = h.0 in omega (arith, ints)

-- a quotient of two ints is an int, unless the least is divided by -1
pub quotient_int : (v w : ℤ) → IsOfType 32 v → Fits Div 32 v w → IsOfType 32 (int_div v w)
quotient_int (pos a) (pos b) h f = below_half (a / b) (omega (arith, size_up a h, div-le_self a b))
quotient_int (pos a) (negsuc b) h f = up_to_half (a / suc b) (omega (arith, size_up a h, div-le_self a (suc b)))
quotient_int (negsuc a) (pos b) h f = up_to_half (suc a / b) (omega (arith, size_down a h, div-le_self (suc a) b))
quotient_int (negsuc a) (negsuc (suc b)) h f =
    below_half (suc a / suc (suc b)) (div_below (suc a) (suc (suc b)) 2147483648 (omega arith) (omega (arith, size_down a h)))
quotient_int (negsuc a) (negsuc zero) h f =
    below_half (suc a / 1) (div_below (suc a) 1 2147483648 (omega arith) (below (suc a) (size_down a h) (λ same. f (ap (λ n. neg_ℤ (pos n)) same, refl))))
  where
    below : (n : ℕ) → n ≤ 2147483648 → (n ≢ 2147483648) → n < 2147483648 * 1
    below n low other = omega (arith, other)

-- what remains of an int is an int
pub remainder_int : (v w : ℤ) → IsOfType 32 v → IsOfType 32 (int_rem v w)
remainder_int (pos a) w h = below_half (a % unsigned_abs w) (omega (arith, size_up a h, mod-le a (unsigned_abs w)))
remainder_int (negsuc a) w h = up_to_half (suc a % unsigned_abs w) (omega (arith, size_down a h, mod-le (suc a) (unsigned_abs w)))
