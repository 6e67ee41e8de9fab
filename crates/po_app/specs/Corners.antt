-- The ends of sums, differences and products of two ranges.
use Rattle.std.specs.Prelude.{ℤ, ◌+ℤ◌, ◌-ℤ◌, ◌*ℤ◌}
use Rattle.std.specs.Int.{int_min, int_max}
use Rattle.po_arith.specs.declared.range.Range.{Range}

abbrev pub sums : Range → Range → Range
sums a b = record { lo = a.lo +ℤ b.lo; hi = a.hi +ℤ b.hi }

abbrev pub differences : Range → Range → Range
differences a b = record { lo = a.lo -ℤ b.hi; hi = a.hi -ℤ b.lo }

abbrev pub least_of : ℤ → ℤ → ℤ → ℤ → ℤ
least_of a b c d = int_min (int_min a b) (int_min c d)

abbrev pub greatest_of : ℤ → ℤ → ℤ → ℤ → ℤ
greatest_of a b c d = int_max (int_max a b) (int_max c d)

-- from the least to the greatest product of two ends
abbrev pub products : Range → Range → Range
products a b = record {
  lo = least_of (a.lo *ℤ b.lo) (a.hi *ℤ b.lo) (a.lo *ℤ b.hi) (a.hi *ℤ b.hi);
  hi = greatest_of (a.lo *ℤ b.lo) (a.hi *ℤ b.lo) (a.lo *ℤ b.hi) (a.hi *ℤ b.hi);
}
