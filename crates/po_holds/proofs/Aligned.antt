-- Multiples: of a sum, and side by side.
use Rattle.std.proofs.Common.{◌≡◌, ◌≤◌, ◌<◌, ◌+◌, ◌*◌, ◌/◌, ◌%◌, ℕ, zero, suc, sym, ap, ◌∙◌, subst, refl, arith, inl, inr, FitsSigned}
use Rattle.std.specs.Prelude.{ℤ, pos, negsuc, ◌+ℤ◌, ◌≤ℤ◌, ◌<ℤ◌, ◌↔◌, IsTrue, nat_eq, unsigned_abs}
use Rattle.std.specs.Int.{w128}
use Rattle.std.proofs.lemmas.Int.{ints}
use Rattle.std.proofs.lemmas.Nat.{div-add-mod', mod_below, mod-mul-add}
use Rattle.std.proofs.lemmas.Bool.{cases_lt}
use Rattle.std.proofs.Math.Nat.{mul-le-mul_right, suc-mul}
use Rattle.po_memory.specs.declared.block.Block.{Block}
use Rattle.po_memory.specs.Blocks.{IsMultiple, IsAligned}
use Rattle.po_holds.specs.declared.choosing.Numbers.{Numbers}
use Rattle.po_holds.specs.Choosing.{IsOneOf}

same_multiple : (q p a : ℕ) → q * a + 1 ≡ p * a → a ≡ 1
same_multiple q p zero next = absurd (omega arith)
same_multiple q p (suc a) next = elim (cases_lt q p) [
  | inl less ↦ let more = mul-le-mul_right (suc a) less in let one_more = suc-mul q (suc a) in omega arith
  | inr not_less ↦ let more = mul-le-mul_right (suc a) not_less in absurd (omega arith)
]

next_to : (n a : ℕ) → n % a ≡ 0 → (n + 1) % a ≡ 0 → a ≡ 1
next_to n a here there =
    let first = div-add-mod' n a in
    let second = div-add-mod' (n + 1) a in
    same_multiple (n / a) ((n + 1) / a) a (omega arith)

pub two_multiples : (a : ℕ) (z : ℤ) → IsMultiple a z → IsMultiple a (z +ℤ pos 1) → a ≡ 1
two_multiples a (pos n) here there = next_to n a here there
two_multiples a (negsuc zero) here there = next_to 0 a there here
two_multiples a (negsuc (suc n)) here there =
    let more : suc (suc n) ≡ suc n + 1 = omega arith in
    let back : negsuc (suc n) +ℤ pos 1 ≡ negsuc n = omega (arith, ints) in
    next_to (suc n) a (subst (IsMultiple a) back there) (subst (λ m. m % a ≡ 0) more here)

pub multiple_of_one : (n : ℕ) → n % 1 ≡ 0
multiple_of_one n = let less = mod_below n 1 (omega arith) in omega arith

-- what is left of a sum by what is left of its parts
pub left_of_sum : (a x y : ℕ) → 0 < a → (x % a + y % a) % a ≡ (x + y) % a
left_of_sum a x y some =
    let first = div-add-mod' x a in
    let second = div-add-mod' y a in
    let last = div-add-mod' (x % a + y % a) a in
    let whole : x + y ≡ (x / a + y / a + (x % a + y % a) / a) * a + (x % a + y % a) % a = omega arith in
    sym (ap (λ n. n % a) whole ∙ mod-mul-add (x / a + y / a + (x % a + y % a) / a) a ((x % a + y % a) % a) (mod_below (x % a + y % a) a some))

-- numbers whose sum doesn't fit have one sign
pub size_of_sum : (x y : ℤ) → FitsSigned w128 x → FitsSigned w128 y → (FitsSigned w128 (x +ℤ y) → ⊥) → unsigned_abs (x +ℤ y) ≡ unsigned_abs x + unsigned_abs y
size_of_sum (pos a) (pos b) p q out = refl
size_of_sum (pos a) (negsuc b) p q out = absurd (out (omega (arith, ints)))
size_of_sum (negsuc a) (pos b) p q out = absurd (out (omega (arith, ints)))
size_of_sum (negsuc a) (negsuc b) p q out = omega arith

pub not_nothing : (x y : ℤ) → (FitsSigned w128 (x +ℤ y) → ⊥) → IsMultiple 0 (x +ℤ y) → ⊥
not_nothing x y out none = out (zero_fits (x +ℤ y) none)
  where
    zero_fits : (z : ℤ) → IsMultiple 0 z → FitsSigned w128 z
    zero_fits (pos n) none = omega (arith, ints)
    zero_fits (negsuc n) none = absurd (omega arith)

-- ---- each place is aligned

pub one_aligned : (at : Numbers) (align : ℕ) (c : Block) → at.lo ≤ℤ at.hi → at.hi ≤ℤ at.lo → align ≤ c.align → IsMultiple align (at.base +ℤ at.lo) ↔ ((o : ℤ) → IsOneOf at o → IsAligned align o c)
one_aligned at align c some up within = (there, λ h. (h (at.base +ℤ at.lo) (omega (arith, ints), omega (arith, ints))).0)
  where
    there : IsMultiple align (at.base +ℤ at.lo) → (o : ℤ) → IsOneOf at o → IsAligned align o c
    there is o one =
        let low = one.0 in
        let high = one.1 in
        let same : at.base +ℤ at.lo ≡ o = omega (arith, ints) in
        (subst (IsMultiple align) same is, within)

pub more_aligned : (at : Numbers) (align : ℕ) (c : Block) → at.lo <ℤ at.hi → align ≤ c.align → (align ≡ 1) ↔ ((o : ℤ) → IsOneOf at o → IsAligned align o c)
more_aligned at align c more within = (λ same o one. (subst (λ a. IsMultiple a o) (sym same) (multiple_of_one (unsigned_abs o)), within), back)
  where
    back : ((o : ℤ) → IsOneOf at o → IsAligned align o c) → align ≡ 1
    back h = two_multiples align (at.base +ℤ at.lo) (h (at.base +ℤ at.lo) (omega (arith, ints), omega (arith, ints))).0 (h (at.base +ℤ at.lo +ℤ pos 1) (omega (arith, ints), omega (arith, ints))).0

pub is_one : (a : ℕ) → IsTrue (nat_eq a 1) ↔ (a ≡ 1)
is_one a = (λ h. grind arith, λ h. rw h refl)

pub zero_tells : (a : ℕ) (x y : ℤ) (m n : ℕ) → m ≡ unsigned_abs x → n ≡ unsigned_abs y → 0 < a → FitsSigned w128 x → FitsSigned w128 y → (FitsSigned w128 (x +ℤ y) → ⊥) → IsTrue (nat_eq ((m % a + n % a) % a) 0) ↔ IsMultiple a (x +ℤ y)
zero_tells a x y m n m_is n_is some fits_x fits_y out =
    let left : (m % a + n % a) % a ≡ unsigned_abs (x +ℤ y) % a = left_of_sum a m n some ∙ (λ i. (m_is i + n_is i) % a) ∙ ap (λ k. k % a) (sym (size_of_sum x y fits_x fits_y out)) in
    (λ h. sym left ∙ equal h, λ h. rw (left ∙ h) refl)
  where
    equal : IsTrue (nat_eq ((m % a + n % a) % a) 0) → (m % a + n % a) % a ≡ 0
    equal h = grind arith
