-- Results of operations on numbers of a type.
use Rattle.std.proofs.Common.{◌≡◌, ◌<◌, ◌≤◌, ◌^◌, ◌-◌, ℕ, arith, refl, ap, ◌∙◌, subst, Bool, true, false, Option, Some, None, FitsSigned, to_z, of_z, lit<}
use Rattle.std.specs.Prelude.{ℤ, pos, negsuc, ◌≤ℤ◌, ◌<ℤ◌, ◌*ℤ◌, ◌+ℤ◌, ◌-ℤ◌, neg_ℤ, ◌≢◌, not}
use Rattle.std.specs.Int.{w128, int_rem_euclid}
use Rattle.std.specs.Int.RustNames.{int_div, int_rem, unsigned_abs}
use Rattle.std.proofs.lemmas.Int.{ints, to_z-of_z, fits_signed_mul}
use Rattle.std.proofs.lemmas.Nat.{pow_pos}
use Rattle.po_arith.specs.declared.int_type.IntType.{IntType}
use Rattle.po_arith.specs.Types.{IsIntType, IsOfType}
use Rattle.po_arith.specs.Shifts.{shifted_left}
use Rattle.po_arith.proofs.Sizes.{small, least_unsigned, greatest_unsigned}
use Rattle.po_arith.proofs.Powers.{pow_up}
use Rattle.po_arith.proofs.Divided.{divided as c99, one_division}
use Rattle.po_arith.proofs.Wrapped.{rest_is_low, rest_is_congruent}
use Rattle.po_base.specs.declared.operators.Op.TheVariants as op
use Rattle.po_types.specs.Integers.{bool_type}
use Rattle.po_typed.specs.Constants.{Becomes, zero_bool, other_bool, wrapped, fitting, Kept, kept_unsigned, kept_signed, Computes, added, subtracted, multiplied, divided, remainder, Shifts, to_the_left}
use Rattle.po_constants.specs.Found.{Finds}

-- a number that isn't negative is its size
size_is : (v : ℤ) → pos 0 ≤ℤ v → pos (unsigned_abs v) ≡ v
size_is (pos n) low = refl
size_is (negsuc n) low = absurd (omega (arith, ints))

-- the exact result that a result was made of
sum_kept : (t : IntType) (v w r : ℤ) → Computes op.Add t v w r → Kept t (v +ℤ w) r
sum_kept t v w r (added t' v' w' r' f) = f

difference_kept : (t : IntType) (v w r : ℤ) → Computes op.Sub t v w r → Kept t (v -ℤ w) r
difference_kept t v w r (subtracted t' v' w' r' f) = f

product_kept : (t : IntType) (v w r : ℤ) → Computes op.Mul t v w r → Kept t (v *ℤ w) r
product_kept t v w r (multiplied t' v' w' r' f) = f

quotient_kept : (t : IntType) (v w r : ℤ) → Computes op.Div t v w r → Kept t (int_div v w) r
quotient_kept t v w r (divided t' v' w' q rest r' other d f) = subst (λ z. Kept t z r) (one_division v w q rest (int_div v w) (int_rem v w) d (c99 v w other)).0 f

remainder_kept : (t : IntType) (v w r : ℤ) → Computes op.Rem t v w r → Kept t (int_rem v w) r
remainder_kept t v w r (remainder t' v' w' q rest r' s other d f g) = subst (λ z. Kept t z r) (one_division v w q rest (int_div v w) (int_rem v w) d (c99 v w other)).1 g

pub not_zero : (t : IntType) (v w r : ℤ) → Computes op.Div t v w r → w ≢ pos 0
not_zero t v w r (divided t' v' w' q rest r' other d f) = other

-- what is left of a product of an unsigned type
pub left_of_product : (t : IntType) (v w m n : ℤ) → t.signed ≡ false → IsOfType t v → IsOfType t w → m ≡ pos (unsigned_abs v) → n ≡ pos (unsigned_abs w) →
    Kept t (v *ℤ w) (int_rem_euclid (m *ℤ n) (pos (2 ^ t.bits)))
left_of_product t v w m n s v_of w_of v_is w_is =
    let first = least_unsigned t s in
    let last = greatest_unsigned t s in
    let some = pow_pos t.bits in
    let low = rest_is_low (v *ℤ w) (2 ^ t.bits) some in
    let congruent = rest_is_congruent (v *ℤ w) (2 ^ t.bits) some in
    let v_low = v_of.0 in
    let w_low = w_of.0 in
    let m_is : m ≡ v = v_is ∙ size_is v (omega (arith, ints)) in
    let n_is : n ≡ w = w_is ∙ size_is w (omega (arith, ints)) in
    rw (m_is, n_is) (kept_unsigned (v *ℤ w) (int_rem_euclid (v *ℤ w) (pos (2 ^ t.bits))) s ((omega (arith, ints), omega (arith, ints)), congruent))

-- the quotient of C99 is the only one
pub finds_quotient : (t : IntType) (v w : ℤ) (found : Option ℤ) → w ≢ pos 0 → Finds (Kept t (int_div v w)) found → Finds (Computes op.Div t v w) found
finds_quotient t v w None other none = λ r h. none r (quotient_kept t v w r h)
finds_quotient t v w (Some r) other some = divided t v w (int_div v w) (int_rem v w) r other (c99 v w other) some

pub no_quotient : (t : IntType) (v w r : ℤ) → w ≡ pos 0 → Computes op.Div t v w r → ⊥
no_quotient t v w r e (divided t' v' w' q rest r' other d f) = other e

pub no_remainder : (t : IntType) (v w : ℤ) → ((q : ℤ) → Computes op.Div t v w q → ⊥) → (r : ℤ) → Computes op.Rem t v w r → ⊥
no_remainder t v w none r (remainder t' v' w' q rest r' s other d f g) = none s (divided t v w q rest s other d f)

pub finds_remainder : (t : IntType) (v w q : ℤ) (found : Option ℤ) → Computes op.Div t v w q → Finds (Kept t (int_rem v w)) found → Finds (Computes op.Rem t v w) found
finds_remainder t v w q None h none = λ r k. none r (remainder_kept t v w r k)
finds_remainder t v w q (Some r) h some =
    let other = not_zero t v w q h in
    remainder t v w (int_div v w) (int_rem v w) r q other (c99 v w other) (quotient_kept t v w q h) some

pub finds_sum : (t : IntType) (v w : ℤ) (found : Option ℤ) → Finds (Kept t (v +ℤ w)) found → Finds (Computes op.Add t v w) found
finds_sum t v w None none = λ r h. none r (sum_kept t v w r h)
finds_sum t v w (Some r) some = added t v w r some

pub finds_difference : (t : IntType) (v w : ℤ) (found : Option ℤ) → Finds (Kept t (v -ℤ w)) found → Finds (Computes op.Sub t v w) found
finds_difference t v w None none = λ r h. none r (difference_kept t v w r h)
finds_difference t v w (Some r) some = subtracted t v w r some

pub finds_product : (t : IntType) (v w : ℤ) (found : Option ℤ) → Finds (Kept t (v *ℤ w)) found → Finds (Computes op.Mul t v w) found
finds_product t v w None none = λ r h. none r (product_kept t v w r h)
finds_product t v w (Some r) some = multiplied t v w r some

-- of another type than _Bool a conversion keeps what it can
pub converted : (t : IntType) (v w : ℤ) → t ≢ bool_type → Kept t v w → Becomes t v w
converted t v w other (kept_unsigned v' w' s m) = wrapped t v' w' other s m
converted t v w other (kept_signed v' s m) = fitting t v' s m

pub kept_back : (t : IntType) (v w : ℤ) → t ≢ bool_type → Becomes t v w → Kept t v w
kept_back t v w other zero_bool = absurd (other refl)
kept_back t v w other (other_bool v' n) = absurd (other refl)
kept_back t v w other (wrapped t' v' w' n s m) = kept_unsigned v' w' s m
kept_back t v w other (fitting t' v' s m) = kept_signed v' s m

pub bool_zero : (t : IntType) (v : ℤ) → t ≡ bool_type → v ≡ pos 0 → Becomes t v (pos 0)
bool_zero t v e f = rw (e, f) zero_bool

pub bool_one : (t : IntType) (v : ℤ) → t ≡ bool_type → v ≢ pos 0 → Becomes t v (pos 1)
bool_one t v e f = rw e (other_bool v f)

pub finds_converted : (t : IntType) (v : ℤ) (found : Option ℤ) → t ≢ bool_type → Finds (Kept t v) found → Finds (Becomes t v) found
finds_converted t v None other none = λ w h. none w (kept_back t v w other h)
finds_converted t v (Some w) other some = converted t v w other some

pub not_kept : (t : IntType) (v w : ℤ) → t.signed ≡ true → (IsOfType t v → ⊥) → Kept t v w → ⊥
not_kept t v w s out (kept_unsigned v' w' s' m) = absurd cc
not_kept t v w s out (kept_signed v' s' m) = out m

pub is_unsigned : (b : Bool) → not b ≡ true → b ≡ false
is_unsigned true h = absurd cc
is_unsigned false h = refl

pub is_signed : (b : Bool) → not b ≡ false → b ≡ true
is_signed true h = refl
is_signed false h = absurd cc

-- the machine's word for 0 is that of no other number
pub is_zero : (v : ℤ) → FitsSigned w128 v → of_z w128 v ≡ 0 → v ≡ pos 0
is_zero v fits h = simp to_z-of_z at (ap (to_z w128) h)

-- a number of the type shifted by less than the width
size_of_number : (v : ℤ) → neg_ℤ (pos (2 ^ 63)) ≤ℤ v → v <ℤ pos (2 ^ 64) → unsigned_abs v ≤ 2 ^ 64 - 1
size_of_number (pos n) low high = omega (arith, ints)
size_of_number (negsuc n) low high = omega (arith, ints)

pub shifted_fits : (t : IntType) (v : ℤ) (n : ℕ) → IsIntType t → IsOfType t v → n < t.bits → FitsSigned w128 (v *ℤ pos (2 ^ n))
shifted_fits t v n is v_of few =
    let s = small t is in
    let low = s.low in
    let high = s.high in
    let most = s.few_bits in
    let v_low = v_of.0 in
    let v_high = v_of.1 in
    fits_signed_mul w128 v (pos (2 ^ n)) (2 ^ 64 - 1) (2 ^ 63) (size_of_number v (omega (arith, ints)) (omega (arith, ints))) (pow_up n 63 (omega arith)) (lit< tt)

shift_kept : (t : IntType) (v r : ℤ) (n : ℕ) → Shifts op.Shl t v n r → Kept t (shifted_left v n) r
shift_kept t v r n (to_the_left t' v' r' n' few f) = f

pub finds_shifted : (t : IntType) (v : ℤ) (n : ℕ) (found : Option ℤ) → n < t.bits → Finds (Kept t (shifted_left v n)) found → Finds (Shifts op.Shl t v n) found
finds_shifted t v n None few none = λ r h. none r (shift_kept t v r n h)
finds_shifted t v n (Some r) few some = to_the_left t v r n few some
