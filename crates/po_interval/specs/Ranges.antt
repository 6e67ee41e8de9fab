-- The intervals of results: for each operation the numbers that it may give of numbers between ends, and then what its type makes of them.
use Rattle.std.specs.Prelude.{◌-◌, ◌^◌, ◌≡◌, Bool, true, false, cond, ◌&&◌, ℤ, pos, neg_ℤ, ◌-ℤ◌, ◌≤ℤ◌, ◌⊎◌, Option, Some, None, int_le}
use Rattle.std.specs.Int.{int_min, int_max}
use Rattle.po_arith.specs.declared.int_type.IntType.{IntType}
use Rattle.po_arith.specs.declared.interval.Interval.{Interval}
use Rattle.po_arith.specs.declared.range.Range.{Range}
use Rattle.po_arith.specs.Types.{least, greatest}
use Rattle.po_arith.specs.Hull.{IsIn}
use Rattle.po_base.specs.declared.operators.Op.{Op}
use Rattle.po_base.specs.declared.operators.Op.TheVariants as op
use Rattle.po_base.specs.declared.operators.UnOp.{UnOp}
use Rattle.po_base.specs.declared.operators.UnOp.TheVariants as un
use Rattle.po_interval.specs.Within.{interval_within}
use Rattle.po_arith.specs.Ranges.{range, some_range, sums, differences, products, quotients, remainders, shifts_up, shifts_down}
use Rattle.po_arith.specs.Bits.{filled}

abbrev pub interval : ℤ → ℤ → Interval
interval lo hi = record { lo = Some lo; hi = Some hi }

abbrev pub Holds : Option Interval → ℤ → Type 0
Holds None v = ⊥
Holds (Some a) v = IsIn a v

abbrev pub AreWithin : Option Interval → Option Interval → Type 0
AreWithin None b = Unit {0}
AreWithin (Some a) None = ⊥
AreWithin (Some a) (Some b) = interval_within a b ≡ true

-- the numbers from low to high that lie in the interval
abbrev pub low_cut : ℤ → Option ℤ → ℤ
low_cut low None = low
low_cut low (Some v) = int_max v low

abbrev pub high_cut : ℤ → Option ℤ → ℤ
high_cut high None = high
high_cut high (Some v) = int_min v high

abbrev pub cut : ℤ → ℤ → Interval → Option Range
cut low high a = some_range (low_cut low a.lo) (high_cut high a.hi)

-- the numbers of the type, and those of them that lie in the interval
abbrev pub whole : IntType → Interval
whole t = interval (least t) (greatest t)

abbrev pub part : IntType → Interval → Option Range
part t a = cut (least t) (greatest t) a

-- the numbers of the interval by which a number of the type may be shifted (6.5.7p3)
abbrev pub counts : IntType → Interval → Option Range
counts t b = cut (pos 0) (pos (t.bits - 1)) b

abbrev pub as_interval : Option Range → Option Interval
as_interval None = None
as_interval (Some r) = Some (interval r.lo r.hi)

-- numbers made numbers of a type: a signed type has those that fit, since nothing else may happen; an unsigned one has them as they
-- are where all fit, else any of its numbers (6.3.1.3)
abbrev pub conv_interval : IntType → Interval → Option Interval
conv_interval t a = cond t.signed (as_interval (part t a)) (Some (cond (interval_within a (whole t)) a (whole t)))

-- the numbers of a type as a range
abbrev pub all : IntType → Range
all t = range (least t) (greatest t)

abbrev pub conjunctions : IntType → Range → Range → Range
conjunctions t r s = cond (int_le (pos 0) r.lo) (range (pos 0) (cond (int_le (pos 0) s.lo) (int_min r.hi s.hi) r.hi)) (cond (int_le (pos 0) s.lo) (range (pos 0) s.hi) (all t))

abbrev pub disjunctions : IntType → Range → Range → Range
disjunctions t r s = cond (int_le (pos 0) r.lo && int_le (pos 0) s.lo) (range (pos 0) (filled (int_max r.hi s.hi))) (all t)

-- what an operation may give of numbers of two ranges, before its type makes numbers of its own of them
abbrev pub outcomes : Op → IntType → Range → Range → Option Range
outcomes op.Add t r s = Some (sums r s)
outcomes op.Sub t r s = Some (differences r s)
outcomes op.Mul t r s = Some (products r s)
outcomes op.Div t r s = quotients r s
outcomes op.Rem t r s = remainders r s
outcomes op.And t r s = Some (conjunctions t r s)
outcomes op.Or t r s = Some (disjunctions t r s)
outcomes op.Xor t r s = Some (disjunctions t r s)
outcomes op.Shl t r s = shifts_up r s
outcomes op.Shr t r s = Some (shifts_down r s)
outcomes op.Eq t r s = Some (range (pos 0) (pos 1))
outcomes op.Ne t r s = Some (range (pos 0) (pos 1))
outcomes op.Lt t r s = Some (range (pos 0) (pos 1))
outcomes op.Le t r s = Some (range (pos 0) (pos 1))
outcomes op.Gt t r s = Some (range (pos 0) (pos 1))
outcomes op.Ge t r s = Some (range (pos 0) (pos 1))

-- whether the second operand is how far to shift
abbrev pub takes_count : Op → Bool
takes_count op.Shl = true
takes_count op.Shr = true
takes_count _ = false

-- the second operand: how far to shift, or a number of the type
abbrev pub second : Op → IntType → Interval → Option Range
second op t b = cond (takes_count op) (counts t b) (part t b)

abbrev pub settled : IntType → Option Range → Option Interval
settled t None = None
settled t (Some r) = conv_interval t (interval r.lo r.hi)

abbrev pub of_parts : Op → IntType → Option Range → Option Range → Option Interval
of_parts op t None s = None
of_parts op t (Some r) None = None
of_parts op t (Some r) (Some s) = settled t (outcomes op t r s)

abbrev pub bin_interval : Op → IntType → Interval → Interval → Option Interval
bin_interval op t a b = of_parts op t (part t a) (second op t b)

-- the complement is that of an unsigned type, counted from its greatest number, or of a signed one (6.5.3.3p4)
abbrev pub complement_from : IntType → ℤ
complement_from t = cond t.signed (neg_ℤ (pos 1)) (greatest t)

abbrev pub un_outcomes : UnOp → IntType → Range → Range
un_outcomes un.Neg t r = range (neg_ℤ r.hi) (neg_ℤ r.lo)
un_outcomes un.Not t r = range (complement_from t -ℤ r.hi) (complement_from t -ℤ r.lo)

abbrev pub of_part : UnOp → IntType → Option Range → Option Interval
of_part op t None = None
of_part op t (Some r) = settled t (Some (un_outcomes op t r))

abbrev pub un_interval : UnOp → IntType → Interval → Option Interval
un_interval op t a = of_part op t (part t a)

-- the same number, or both beyond the numbers of every type, on one side
abbrev pub AreAlike : ℤ → ℤ → Type 0
AreAlike v w = (v ≡ w) ⊎ (((pos (2 ^ 64) ≤ℤ v) × (pos (2 ^ 64) ≤ℤ w)) ⊎ ((v ≤ℤ neg_ℤ (pos (2 ^ 64))) × (w ≤ℤ neg_ℤ (pos (2 ^ 64)))))

-- as far as the types reach the ranges are the same
pub record EndsAlike (r s : Range) : Type 0 where
  pub low : AreAlike r.lo s.lo
  pub high : AreAlike r.hi s.hi
  pub first_up : r.lo ≤ℤ r.hi
  pub second_up : s.lo ≤ℤ s.hi
