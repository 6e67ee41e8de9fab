-- What tests on whole numbers tell.
use Rattle.std.proofs.Common.{arith, Bool, true, false, not, ◌&&◌, ◌≡◌, refl, ◌∙◌}
use Rattle.std.specs.Prelude.{ℤ, ◌≤ℤ◌, ◌<ℤ◌, int_le, int_lt}
use Rattle.std.specs.Bool.{Decides}
use Rattle.std.proofs.lemmas.Int.{ints}
use Rattle.std.proofs.lemmas.Bool.Decides.{Decides-and}
use Rattle.po_pred.specs.declared.pred.Place.{Place}
use Rattle.po_app.specs.Delegation.{from_to}

pub Decides-le : (x y : ℤ) → Decides (int_le x y) (x ≤ℤ y)
Decides-le x y = (λ t. grind (arith, ints), λ h. grind (arith, ints))

pub Decides-lt : (x y : ℤ) → Decides (int_lt x y) (x <ℤ y)
Decides-lt x y = (λ t. grind (arith, ints), λ h. grind (arith, ints))

-- a test says no exactly where what it decides isn't so
pub Decides-never : {P : Type 0} (t : Bool) → Decides t P → Decides (not t) (P → ⊥)
Decides-never true d = (λ h p. absurd (cc), λ f. absurd (f (d.0 refl)))
Decides-never false d = (λ h p. absurd (cc (d.1 p)), λ f. refl)

-- a second test is asked only where the first one passes
pub and_then : (t u p q r : Bool) → t ≡ true → t ≡ p → u ≡ q → (p && q) ≡ r → u ≡ r
and_then t u true q r h a b e = b ∙ e
and_then t u false q r h a b e = absurd (cc)

pub and_else : (t p q r : Bool) → t ≡ false → t ≡ p → (p && q) ≡ r → t ≡ r
and_else t true q r h a e = absurd (cc)
and_else t false q r h a e = a ∙ e

-- the ends of a place stand in order between two numbers
pub Decides-from_to : (lo hi : ℤ) (p : Place) → Decides (from_to lo hi p) (((lo ≤ℤ p.lo) × (p.lo ≤ℤ p.hi)) × (p.hi ≤ℤ hi))
Decides-from_to lo hi p = Decides-and _ _ (Decides-and _ _ (Decides-le lo p.lo) (Decides-le p.lo p.hi)) (Decides-le p.hi hi)

pub second_of_two : (a b : Bool) → (a && b) ≡ true → b ≡ true
second_of_two true b h = h
second_of_two false b h = absurd (cc)

pub first_of_two : (a b : Bool) → (a && b) ≡ true → a ≡ true
first_of_two true b h = refl
first_of_two false b h = h
