-- Intervals within one another, by their ends.
use Rattle.std.specs.Prelude.{◌≡◌, Bool, true, false, ◌&&◌, ℤ, Option, Some, None, int_le}
use Rattle.po_arith.specs.declared.interval.Interval.{Interval}
use Rattle.po_arith.specs.Hull.{IsWithin, IsInhabited, hull}

-- a missing end is below all, or above all
abbrev pub is_lower : Option ℤ → Option ℤ → Bool
is_lower None b = true
is_lower (Some x) None = false
is_lower (Some x) (Some y) = int_le x y

abbrev pub is_upper : Option ℤ → Option ℤ → Bool
is_upper None b = true
is_upper (Some x) None = false
is_upper (Some x) (Some y) = int_le y x

abbrev pub interval_within : Interval → Interval → Bool
interval_within a b = is_lower b.lo a.lo && is_upper b.hi a.hi

-- the test tells just whether each number of the one is a number of the other, where there is a number
abbrev pub WithinIsExact : Type 0
WithinIsExact = (a b : Interval) → (interval_within a b ≡ true → IsWithin a b) × (IsInhabited a → IsWithin a b → interval_within a b ≡ true)

-- an order by the ends, and the hull its least upper bound
pub record EndsAreOrdered : Type 0 where
  pub reflexive : (a : Interval) → interval_within a a ≡ true
  pub transitive : (a b c : Interval) → interval_within a b ≡ true → interval_within b c ≡ true → interval_within a c ≡ true
  pub antisymmetric : (a b : Interval) → interval_within a b ≡ true → interval_within b a ≡ true → a ≡ b
  pub first : (a b : Interval) → interval_within a (hull a b) ≡ true
  pub second : (a b : Interval) → interval_within b (hull a b) ≡ true
  pub least : (a b c : Interval) → interval_within a c ≡ true → interval_within b c ≡ true → interval_within (hull a b) c ≡ true
