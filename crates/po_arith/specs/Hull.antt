-- Intervals of whole numbers, whose ends may be missing.
use Rattle.std.specs.Prelude.{ℤ, ◌≤ℤ◌, Option, Some, None}
use Rattle.std.specs.Int.{int_min, int_max}
use Rattle.po_arith.specs.declared.interval.Interval.{Interval}

abbrev pub IsAtLeast : Option ℤ → ℤ → Type 0
IsAtLeast None v = Unit {0}
IsAtLeast (Some lo) v = lo ≤ℤ v

abbrev pub IsAtMost : Option ℤ → ℤ → Type 0
IsAtMost None v = Unit {0}
IsAtMost (Some hi) v = v ≤ℤ hi

-- v lies in the interval
abbrev pub IsIn : Interval → ℤ → Type 0
IsIn a v = IsAtLeast a.lo v × IsAtMost a.hi v

abbrev pub IsWithin : Interval → Interval → Type 0
IsWithin a b = (v : ℤ) → IsIn a v → IsIn b v

-- some number lies in the interval
abbrev pub IsInhabited : Interval → Type 0
IsInhabited a = (v : ℤ) × IsIn a v

-- the lesser of two lower ends, and the greater of two upper ones
abbrev pub lower : Option ℤ → Option ℤ → Option ℤ
lower (Some x) (Some y) = Some (int_min x y)
lower _ _ = None

abbrev pub upper : Option ℤ → Option ℤ → Option ℤ
upper (Some x) (Some y) = Some (int_max x y)
upper _ _ = None

abbrev pub hull : Interval → Interval → Interval
hull a b = record { lo = lower a.lo b.lo; hi = upper a.hi b.hi }

-- c is the least interval that holds both
pub record IsHull (a b c : Interval) : Type 0 where
  pub first : IsWithin a c
  pub second : IsWithin b c
  pub least : (d : Interval) → IsWithin a d → IsWithin b d → IsWithin c d
