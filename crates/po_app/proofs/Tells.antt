-- A predicate that is closed by its ranges holds for all values that its places may have.
use Rattle.std.proofs.Common.{◌≡◌, ◌↔◌, arith, refl, subst, true}
use Rattle.std.specs.Prelude.{ℕ, ℤ, ◌≤ℤ◌, ◌<ℤ◌, ◌+ℤ◌, ◌*ℤ◌, ◌-ℤ◌, neg_ℤ, pos, negsuc, Option, Some, None}
use Rattle.std.specs.Bool.{Decides}
use Rattle.std.proofs.lemmas.Int.{ints, clamps}
use Rattle.std.proofs.lemmas.Bool.Decides.{Decides-and}
use Rattle.po_arith.specs.declared.range.Range.{Range}
use Rattle.po_pred.specs.declared.pred.Atom.{Atom}
use Rattle.po_pred.specs.declared.pred.Place.{Place}
use Rattle.po_pred.specs.declared.pred.Over.{Over}
use Rattle.po_pred.specs.declared.pred.Over.TheVariants.{Add, Sub, Mul, Div, Rem, Shl, Neg}
use Rattle.po_pred.specs.declared.pred.Pred.{Pred}
use Rattle.po_pred.specs.declared.pred.Pred.TheVariants.{Nonzero, NoOver}
use Rattle.po_app.specs.Predicates.{IsOfType, half, MayBe, MayBeFrom, SecondMayBe, HoldsForAll}
use Rattle.po_app.specs.Ranges.{IsIn, NeverLeaves}
use Rattle.po_app.specs.Corners.{sums, differences, products, least_of, greatest_of}
use Rattle.po_app.specs.Discharge.{range_of, range_from, second_range, has, of_type, ends_fit, stays, is_closed}
use Rattle.po_app.proofs.Corners.{product_in}
use Rattle.po_app.specs.Tests.{Decides-le, Decides-lt, Decides-never}

abbrev pub EndsFit : ℕ → Range → Type 0
EndsFit bits r = IsOfType bits r.lo × IsOfType bits r.hi

pub Decides-has : (r : Range) (v : ℤ) → Decides (has r v) (IsIn r v)
Decides-has r v = Decides-and _ _ (Decides-le r.lo v) (Decides-le v r.hi)

pub Decides-of_type : (bits : ℕ) (v : ℤ) → Decides (of_type bits v) (IsOfType bits v)
Decides-of_type bits v = Decides-and _ _ (Decides-le _ v) (Decides-lt v _)

pub Decides-ends_fit : (bits : ℕ) (r : Range) → Decides (ends_fit bits r) (EndsFit bits r)
Decides-ends_fit bits r = Decides-and _ _ (Decides-of_type bits r.lo) (Decides-of_type bits r.hi)

-- what lies between two numbers of a type is of it
between : (h : ℕ) (lo hi v : ℤ) → neg_ℤ (pos h) ≤ℤ lo → hi <ℤ pos h → lo ≤ℤ v → v ≤ℤ hi → (neg_ℤ (pos h) ≤ℤ v) × (v <ℤ pos h)
between h lo hi v p q r s = (omega (arith, ints), omega (arith, ints))

sum_fits : (bits : ℕ) (a b : Range) → EndsFit bits (sums a b) → NeverLeaves Add bits a b
sum_fits bits a b e v w p q =
    between (half bits) (a.lo +ℤ b.lo) (a.hi +ℤ b.hi) (v +ℤ w) e.0.0 e.1.1 (omega (arith, ints)) (omega (arith, ints))

sum_ends : (bits : ℕ) (a b : Range) → a.lo ≤ℤ a.hi → b.lo ≤ℤ b.hi → NeverLeaves Add bits a b → EndsFit bits (sums a b)
sum_ends bits a b sa sb n = (n a.lo b.lo (omega (arith, ints), sa) (omega (arith, ints), sb), n a.hi b.hi (sa, omega (arith, ints)) (sb, omega (arith, ints)))

difference_fits : (bits : ℕ) (a b : Range) → EndsFit bits (differences a b) → NeverLeaves Sub bits a b
difference_fits bits a b e v w p q =
    between (half bits) (a.lo -ℤ b.hi) (a.hi -ℤ b.lo) (v -ℤ w) e.0.0 e.1.1 (omega (arith, ints)) (omega (arith, ints))

difference_ends : (bits : ℕ) (a b : Range) → a.lo ≤ℤ a.hi → b.lo ≤ℤ b.hi → NeverLeaves Sub bits a b → EndsFit bits (differences a b)
difference_ends bits a b sa sb n = (n a.lo b.hi (omega (arith, ints), sa) (sb, omega (arith, ints)), n a.hi b.lo (sa, omega (arith, ints)) (omega (arith, ints), sb))

product_fits : (bits : ℕ) (a b : Range) → EndsFit bits (products a b) → NeverLeaves Mul bits a b
product_fits bits a b e v w p q =
    let inside = product_in a b v w p q in
    between (half bits) (products a b).lo (products a b).hi (v *ℤ w) e.0.0 e.1.1 inside.0 inside.1

-- the least and the greatest of four numbers of a type are of it
four_of_type : (h : ℕ) (a b c d : ℤ) → (neg_ℤ (pos h) ≤ℤ a) × (a <ℤ pos h) → (neg_ℤ (pos h) ≤ℤ b) × (b <ℤ pos h) → (neg_ℤ (pos h) ≤ℤ c) × (c <ℤ pos h) → (neg_ℤ (pos h) ≤ℤ d) × (d <ℤ pos h) →
    ((neg_ℤ (pos h) ≤ℤ least_of a b c d) × (least_of a b c d <ℤ pos h)) × ((neg_ℤ (pos h) ≤ℤ greatest_of a b c d) × (greatest_of a b c d <ℤ pos h))
four_of_type h a b c d p q r s = ((omega (arith, ints, clamps), omega (arith, ints, clamps)), (omega (arith, ints, clamps), omega (arith, ints, clamps)))

product_ends : (bits : ℕ) (a b : Range) → a.lo ≤ℤ a.hi → b.lo ≤ℤ b.hi → NeverLeaves Mul bits a b → EndsFit bits (products a b)
product_ends bits a b sa sb n =
    let al : IsIn a a.lo = (omega (arith, ints), sa) in
    let ah : IsIn a a.hi = (sa, omega (arith, ints)) in
    let bl : IsIn b b.lo = (omega (arith, ints), sb) in
    let bh : IsIn b b.hi = (sb, omega (arith, ints)) in
    four_of_type (half bits) _ _ _ _ (n a.lo b.lo al bl) (n a.hi b.lo ah bl) (n a.lo b.hi al bh) (n a.hi b.hi ah bh)

-- the least number of the type stands in one range and -1 in the other
abbrev pub LeastMeetsMinusOne : ℕ → Range → Range → Type 0
LeastMeetsMinusOne bits a b = IsIn a (neg_ℤ (pos (half bits))) × IsIn b (negsuc 0)

quotient_fits : (bits : ℕ) (a b : Range) → (LeastMeetsMinusOne bits a b → ⊥) → NeverLeaves Div bits a b
quotient_fits bits a b never v w v_in w_in same = never (subst (λ z. IsIn a z) same.0 v_in, subst (λ z. IsIn b z) same.1 w_in)

quotient_ends : (bits : ℕ) (a b : Range) → NeverLeaves Div bits a b → LeastMeetsMinusOne bits a b → ⊥
quotient_ends bits a b fits both = fits _ _ both.0 both.1 (refl, refl)

Decides-quotient : (bits : ℕ) (a b : Range) → Decides (stays Div bits a b) (LeastMeetsMinusOne bits a b → ⊥)
Decides-quotient bits a b = Decides-never _ (Decides-and _ _ (Decides-has a (neg_ℤ (pos (half bits)))) (Decides-has b (negsuc 0)))

-- the test over two ranges shows that no number between their ends leaves the type
pub stays_shows : (op : Over) (bits : ℕ) (a b : Range) → stays op bits a b ≡ true → NeverLeaves op bits a b
stays_shows Add bits a b h = sum_fits bits a b ((Decides-ends_fit bits (sums a b)).0 h)
stays_shows Sub bits a b h = difference_fits bits a b ((Decides-ends_fit bits (differences a b)).0 h)
stays_shows Mul bits a b h = product_fits bits a b ((Decides-ends_fit bits (products a b)).0 h)
stays_shows Div bits a b h = quotient_fits bits a b ((Decides-quotient bits a b).0 h)
stays_shows Rem bits a b h = quotient_fits bits a b ((Decides-quotient bits a b).0 h)
stays_shows Shl bits a b h = absurd (cc)
stays_shows Neg bits a b h = absurd (cc)

-- and it passes wherever none does
pub stays_wherever : (op : Over) (bits : ℕ) (a b : Range) → a.lo ≤ℤ a.hi → b.lo ≤ℤ b.hi → NeverLeaves op bits a b → stays op bits a b ≡ true
stays_wherever Add bits a b sa sb n = (Decides-ends_fit bits (sums a b)).1 (sum_ends bits a b sa sb n)
stays_wherever Sub bits a b sa sb n = (Decides-ends_fit bits (differences a b)).1 (difference_ends bits a b sa sb n)
stays_wherever Mul bits a b sa sb n = (Decides-ends_fit bits (products a b)).1 (product_ends bits a b sa sb n)
stays_wherever Div bits a b sa sb n = (Decides-quotient bits a b).1 (quotient_ends bits a b n)
stays_wherever Rem bits a b sa sb n = (Decides-quotient bits a b).1 (quotient_ends bits a b n)
stays_wherever Shl bits a b sa sb n = absurd (n a.lo b.lo (omega (arith, ints), sa) (omega (arith, ints), sb))
stays_wherever Neg bits a b sa sb n = absurd (n a.lo b.lo (omega (arith, ints), sa) (omega (arith, ints), sb))

pub stays_tells : (op : Over) (bits : ℕ) (a b : Range) → a.lo ≤ℤ a.hi → b.lo ≤ℤ b.hi → (stays op bits a b ≡ true) ↔ NeverLeaves op bits a b
stays_tells op bits a b sa sb = (stays_shows op bits a b, stays_wherever op bits a b sa sb)

covers_from : (atom : Option Atom) (p : Place) (v : ℤ) → MayBeFrom atom p v → IsIn (range_from atom p) v
covers_from None p v h = (omega (arith, ints), omega (arith, ints))
covers_from (Some atom) p v h = (omega (arith, ints), omega (arith, ints))

-- each value that a place may have is in its range
pub range_covers : (p : Place) (v : ℤ) → MayBe p v → IsIn (range_of p) v
range_covers p v h = covers_from p.atom p v h

pub second_covers : (b : Option Place) (w : ℤ) → SecondMayBe b w → IsIn (second_range b) w
second_covers None w h = (omega (arith, ints), omega (arith, ints))
second_covers (Some p) w h = range_covers p w h

pub closed_for_all : (q : Pred) → is_closed q ≡ true → HoldsForAll q
closed_for_all (Nonzero x) h = λ v may zero_there.
    (Decides-never _ (Decides-has (range_of x) (pos 0))).0 h (subst (λ z. IsIn (range_of x) z) zero_there (range_covers x v may))
closed_for_all (NoOver op bits a b) h = λ v w may_a may_b.
    stays_shows op bits (range_of a) (second_range b) h v w (range_covers a v may_a) (second_covers b w may_b)
closed_for_all _ h = absurd (cc)
