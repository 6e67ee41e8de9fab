-- Predicates on whole numbers, and the values that the places of a predicate may have.
use Rattle.std.specs.Prelude.{ℕ, ◌-◌, ◌^◌, ◌≡◌, ◌≢◌, ℤ, pos, negsuc, neg_ℤ, ◌+ℤ◌, ◌-ℤ◌, ◌*ℤ◌, ◌≤ℤ◌, ◌<ℤ◌, Option, Some, None}
use Rattle.po_pred.specs.declared.pred.Atom.{Atom}
use Rattle.po_pred.specs.declared.pred.Place.{Place}
use Rattle.po_pred.specs.declared.pred.Over.{Over}
use Rattle.po_pred.specs.declared.pred.Over.TheVariants.{Add, Sub, Mul, Div, Rem, Shl, Neg}
use Rattle.po_pred.specs.declared.pred.Pred.{Pred}
use Rattle.po_pred.specs.declared.pred.Pred.TheVariants.{Nonzero, NoOver}

-- half of the numbers of the integer types of this width
abbrev pub half : ℕ → ℕ
half bits = 2 ^ (bits - 1)

-- v is a number of the signed type of this width (6.2.6.2)
abbrev pub IsOfType : ℕ → ℤ → Type 0
IsOfType bits v = (neg_ℤ (pos (half bits)) ≤ℤ v) × (v <ℤ pos (half bits))

-- the result doesn't leave the signed type of this width (6.5p5); for `/` and `%` (6.5.5p6) it leaves it only where
-- the least number is divided by -1; of shifts and negations, which aren't served, nothing is known
abbrev pub Fits : Over → ℕ → ℤ → ℤ → Type 0
Fits Add bits v w = IsOfType bits (v +ℤ w)
Fits Sub bits v w = IsOfType bits (v -ℤ w)
Fits Mul bits v w = IsOfType bits (v *ℤ w)
Fits Div bits v w = (v ≡ neg_ℤ (pos (half bits))) × (w ≡ negsuc 0) → ⊥
Fits Rem bits v w = (v ≡ neg_ℤ (pos (half bits))) × (w ≡ negsuc 0) → ⊥
Fits Shl bits v w = ⊥
Fits Neg bits v w = ⊥

-- v is u moved by a number of the place
abbrev pub IsMoved : Place → ℤ → ℤ → Type 0
IsMoved p u v = ((u +ℤ p.lo) ≤ℤ v) × (v ≤ℤ (u +ℤ p.hi))

abbrev pub MayBeFrom : Option Atom → Place → ℤ → Type 0
MayBeFrom None p v = IsMoved p (pos 0) v
MayBeFrom (Some atom) p v = (u : ℤ) × IsOfType 32 u × IsMoved p u v

-- v may be the value of the place: an operand that is a number has that one value, any other every int
abbrev pub MayBe : Place → ℤ → Type 0
MayBe p v = MayBeFrom p.atom p v

-- the same of the second operand, for which an operator of one operand has 0
abbrev pub SecondMayBe : Option Place → ℤ → Type 0
SecondMayBe None w = w ≡ pos 0
SecondMayBe (Some p) w = MayBe p w

-- the predicate holds for all values that its places may have; no other kind is served, and none is known to hold
abbrev pub HoldsForAll : Pred → Type 0
HoldsForAll (Nonzero x) = (v : ℤ) → MayBe x v → v ≢ pos 0
HoldsForAll (NoOver op bits a b) = (v w : ℤ) → MayBe a v → SecondMayBe b w → Fits op bits v w
HoldsForAll _ = ⊥

-- the place has a number
abbrev pub HasANumber : Place → Type 0
HasANumber p = p.lo ≤ℤ p.hi

abbrev pub SecondHasANumber : Option Place → Type 0
SecondHasANumber None = Unit {0}
SecondHasANumber (Some p) = HasANumber p

-- each place of the predicate has a number
abbrev pub HaveNumbers : Pred → Type 0
HaveNumbers (Nonzero x) = HasANumber x
HaveNumbers (NoOver op bits a b) = HasANumber a × SecondHasANumber b
HaveNumbers _ = Unit {0}
