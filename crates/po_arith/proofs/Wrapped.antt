-- The one number of a type that is congruent to another.
use Rattle.std.proofs.Common.{◌≡◌, ◌<◌, ◌+◌, ◌-◌, ◌/◌, ◌^◌, ℕ, suc, arith, ap, Bool, true, false, inl, inr, zero, ◌∙◌, subst, FitsSigned}
use Rattle.std.specs.Prelude.{ℤ, ◌≤ℤ◌, ◌<ℤ◌, ◌+ℤ◌, ◌-ℤ◌, pos, negsuc, neg_ℤ}
use Rattle.std.specs.Int.{int_rem_euclid, w128}
use Rattle.std.specs.Int.Signed.{mag}
use Rattle.std.proofs.lemmas.Int.{ints}
use Rattle.std.proofs.lemmas.Nat.{div-add-mod', mod_below, pow_pos}
use Rattle.std.proofs.Math.Nat.{pow-suc, suc-mul, mod-eq_of_lt}
use Rattle.po_arith.specs.declared.int_type.IntType.{IntType}
use Rattle.po_arith.specs.Types.{IsIntType, IsWidth, IsWrapped, AreCongruent, least, greatest}
use Rattle.po_arith.proofs.Products.{one_more, same_rest}

-- what is left of v modulo m
pub rest_is_low : (v : ℤ) (m : ℕ) → 0 < m → (pos 0 ≤ℤ int_rem_euclid v (pos m)) × (int_rem_euclid v (pos m) <ℤ pos m)
rest_is_low (pos a) m some = let low = mod_below a m some in (omega (arith, ints), omega (arith, ints))
rest_is_low (negsuc a) m some = let low = mod_below a m some in (omega (arith, ints), omega (arith, ints))

pub rest_is_congruent : (v : ℤ) (m : ℕ) → 0 < m → AreCongruent m v (int_rem_euclid v (pos m))
rest_is_congruent (pos a) m some =
    let whole = div-add-mod' a m in
    (pos (a / m), omega (arith, ints))
rest_is_congruent (negsuc a) m some =
    let whole = div-add-mod' a m in
    let low = mod_below a m some in
    let more = suc-mul (a / m) m in
    (negsuc (a / m), omega (arith, ints))

pub rest_of_small : (v : ℤ) (m : ℕ) → pos 0 ≤ℤ v → v <ℤ pos m → int_rem_euclid v (pos m) ≡ v
rest_of_small (pos a) m low high = let less : a < m = omega (arith, ints) in ap pos (mod-eq_of_lt less)
rest_of_small (negsuc a) m low high = absurd (omega (arith, ints))

-- the same one multiple down
pub congruent_below : (m : ℕ) (v r : ℤ) → AreCongruent m v r → AreCongruent m v (r -ℤ pos m)
congruent_below m v r (k, same) = (k +ℤ pos 1, rw (one_more m k) (omega (arith, ints)))

positive : (bits : ℕ) → IsWidth bits → 0 < bits
positive bits (inl h) = omega arith
positive bits (inr (inl h)) = omega arith
positive bits (inr (inr (inl h))) = omega arith
positive bits (inr (inr (inr (inl h)))) = omega arith
positive bits (inr (inr (inr (inr h)))) = omega arith

double : (bits : ℕ) → 0 < bits → 2 ^ bits ≡ 2 ^ (bits - 1) + 2 ^ (bits - 1)
double zero some = absurd (omega arith)
double (suc n) some =
    let back : 2 ^ (suc n - 1) ≡ 2 ^ n = ap (λ k. 2 ^ k) (omega arith) in
    let twice = pow-suc 2 n in
    omega arith

-- a type has 2 to its width numbers, and 0 is one of them
pub record Spans (t : IntType) : Type 0 where
  pub low : least t ≤ℤ pos 0
  pub high : pos 0 ≤ℤ greatest t
  pub count : greatest t +ℤ pos 1 ≡ least t +ℤ pos (2 ^ t.bits)

spans_if : (bits : ℕ) (signed : Bool) → 0 < bits → Spans (record { bits = bits; signed = signed })
spans_if bits true some =
    let halves = double bits some in
    let half = pow_pos (bits - 1) in
    record { low = omega (arith, ints); high = omega (arith, ints); count = omega (arith, ints) }
spans_if bits false some =
    let all = pow_pos bits in
    record { low = omega (arith, ints); high = omega (arith, ints); count = omega (arith, ints) }

pub spans : (t : IntType) → IsIntType t → Spans t
spans t is = spans_if t.bits t.signed (positive t.bits is.width)

-- the rest is the number, or the rest less one multiple where it is too great
pub wrapped_low : (t : IntType) (v r m high : ℤ) → IsIntType t → m ≡ pos (2 ^ t.bits) → high ≡ greatest t → r ≡ int_rem_euclid v m → r ≤ℤ high → IsWrapped t v r
wrapped_low t v r m high is m_is high_is rest_is below =
    let rest_of = rest_is ∙ ap (int_rem_euclid v) m_is in
    let low = (spans t is).low in
    let rest = rest_is_low v (2 ^ t.bits) (pow_pos t.bits) in
    ((omega (arith, ints), omega (arith, ints)), rw rest_of (rest_is_congruent v (2 ^ t.bits) (pow_pos t.bits)))

pub wrapped_high : (t : IntType) (v r m high : ℤ) → IsIntType t → m ≡ pos (2 ^ t.bits) → high ≡ greatest t → r ≡ int_rem_euclid v m → high <ℤ r → IsWrapped t v (r -ℤ m)
wrapped_high t v r m high is m_is high_is rest_is above =
    let rest_of = rest_is ∙ ap (int_rem_euclid v) m_is in
    let up = (spans t is).high in
    let count = (spans t is).count in
    let rest = rest_is_low v (2 ^ t.bits) (pow_pos t.bits) in
    rw m_is ((omega (arith, ints), omega (arith, ints)), congruent_below (2 ^ t.bits) v r (rw rest_of (rest_is_congruent v (2 ^ t.bits) (pow_pos t.bits))))

between_fits : (z : ℤ) → neg_ℤ (pos (2 ^ 127)) ≤ℤ z → z <ℤ pos (2 ^ 127) → FitsSigned w128 z
between_fits (pos n) low high = record { sfits = omega (arith, ints) }
between_fits (negsuc n) low high = record { sfits = omega (arith, ints) }

pub rest_fits : (t : IntType) (v r m : ℤ) → m ≡ pos (2 ^ t.bits) → r ≡ int_rem_euclid v m → FitsSigned w128 r → FitsSigned w128 m → FitsSigned w128 (r -ℤ m)
rest_fits t v r m m_is rest_is r_fits m_fits =
    let rest_of = rest_is ∙ ap (int_rem_euclid v) m_is in
    let rest = rest_is_low v (2 ^ t.bits) (pow_pos t.bits) in
    let count = pow_pos t.bits in
    let size : 2 ^ t.bits < 2 ^ 127 = subst (λ z. mag z < 2 ^ 127) m_is m_fits.sfits in
    between_fits (r -ℤ m) (omega (arith, ints)) (omega (arith, ints))

pub one_wrapped : (t : IntType) (v w u : ℤ) → IsIntType t → IsWrapped t v w → IsWrapped t v u → w ≡ u
one_wrapped t v w u is (w_in, (k, w_is)) (u_in, (j, u_is)) =
    let s = spans t is in
    let count = s.count in
    (same_rest (2 ^ t.bits) k j w u (omega (arith, ints)) (omega (arith, ints)) (omega (arith, ints))).1
