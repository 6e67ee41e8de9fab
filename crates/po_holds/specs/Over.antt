-- What is asked of each of two numbers. Private clauses alone cite these words.
use Rattle.std.specs.Prelude.{ℕ, ◌^◌, ℤ, pos, neg_ℤ, ◌≡◌, ◌+ℤ◌, ◌*ℤ◌, ◌≤ℤ◌}
use Rattle.po_pred.specs.declared.pred.Over.{Over}
use Rattle.po_memory.specs.Blocks.{StaysIn, IsOfWidth}
use Rattle.po_holds.specs.declared.choosing.Numbers.{Numbers}
use Rattle.po_holds.specs.declared.over.Power.{Power}
use Rattle.po_holds.specs.declared.over.Sum.{Sum}
use Rattle.po_holds.specs.Choosing.{IsOneOf}

abbrev pub EachOne : Numbers → (ℤ → Type 0) → Type 0
EachOne r IsSo = (z : ℤ) → IsOneOf r z → IsSo z

abbrev pub EachTwo : Numbers → Numbers → (ℤ → ℤ → Type 0) → Type 0
EachTwo v w IsSo = (x y : ℤ) → IsOneOf v x → IsOneOf w y → IsSo x y

-- no result of the operator on numbers of the two leaves the signed type of this width
abbrev pub EachStays : Over → ℕ → Numbers → Numbers → Type 0
EachStays op bits v w = EachTwo v w (StaysIn op bits)

abbrev pub minus : ℕ → ℤ
minus n = neg_ℤ (pos (2 ^ n))

-- less 2 to the n, as two products
pub record IsPower (n : ℕ) (p : Power) : Type 0 where
  pub value : p.first *ℤ p.second +ℤ p.more *ℤ p.second ≡ minus n
  pub least : pos 0 ≤ℤ p.second
  pub greatest : p.second ≤ℤ pos (2 ^ 126)

-- the products of a number with both ends are of this width
abbrev pub EndsStay : ℕ → ℤ → Numbers → Type 0
EndsStay bits x w = IsOfWidth bits (x *ℤ (w.base +ℤ w.lo)) × IsOfWidth bits (x *ℤ (w.base +ℤ w.hi))

abbrev pub sum_of : Sum → ℤ
sum_of s = s.a *ℤ s.w +ℤ (s.b *ℤ s.x +ℤ (s.c *ℤ s.y +ℤ (s.d *ℤ s.z +ℤ pos 0)))
