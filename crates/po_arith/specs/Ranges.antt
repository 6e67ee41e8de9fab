-- Ranges of whole numbers, and the results of the numbers between two pairs of ends.
use Rattle.std.specs.Prelude.{◌^◌, cond, ℤ, pos, neg_ℤ, ◌+ℤ◌, ◌-ℤ◌, ◌*ℤ◌, ◌≤ℤ◌, ◌<ℤ◌, ◌≢◌, Option, Some, None, int_le, int_div, int_rem, unsigned_abs}
use Rattle.std.specs.Int.{int_min, int_max, int_shr}
use Rattle.po_arith.specs.declared.range.Range.{Range}

abbrev pub range : ℤ → ℤ → Range
range lo hi = record { lo = lo; hi = hi }

-- v lies between the ends; nothing lies in what is empty
abbrev pub Spans : Option Range → ℤ → Type 0
Spans None v = ⊥
Spans (Some r) v = (r.lo ≤ℤ v) × (v ≤ℤ r.hi)

-- the ends of the first lie between those of the second; the empty one lies within all
abbrev pub IsPart : Option Range → Option Range → Type 0
IsPart None b = Unit {0}
IsPart (Some r) None = ⊥
IsPart (Some r) (Some s) = (s.lo ≤ℤ r.lo) × (r.hi ≤ℤ s.hi)

abbrev pub some_range : ℤ → ℤ → Option Range
some_range lo hi = cond (int_le lo hi) (Some (range lo hi)) None

-- from the least to the greatest of four
abbrev pub corners : ℤ → ℤ → ℤ → ℤ → Range
corners p q u v = range (int_min (int_min p q) (int_min u v)) (int_max (int_max p q) (int_max u v))

abbrev pub sums : Range → Range → Range
sums r s = range (r.lo +ℤ s.lo) (r.hi +ℤ s.hi)

abbrev pub differences : Range → Range → Range
differences r s = range (r.lo -ℤ s.hi) (r.hi -ℤ s.lo)

abbrev pub products : Range → Range → Range
products r s = corners (r.lo *ℤ s.lo) (r.lo *ℤ s.hi) (r.hi *ℤ s.lo) (r.hi *ℤ s.hi)

-- the negative and the positive numbers of a range
abbrev pub negatives : Range → Option Range
negatives s = some_range s.lo (int_min s.hi (neg_ℤ (pos 1)))

abbrev pub positives : Range → Option Range
positives s = some_range (int_max s.lo (pos 1)) s.hi

-- the hull of those that are there
abbrev pub both : Option Range → Option Range → Option Range
both None b = b
both (Some r) None = Some r
both (Some r) (Some s) = Some (range (int_min r.lo s.lo) (int_max r.hi s.hi))

-- quotients at the corners, by divisors of one sign
abbrev pub over : Range → Option Range → Option Range
over r None = None
over r (Some s) = Some (corners (int_div r.lo s.lo) (int_div r.lo s.hi) (int_div r.hi s.lo) (int_div r.hi s.hi))

abbrev pub quotients : Range → Range → Option Range
quotients r s = both (over r (negatives s)) (over r (positives s))

-- a remainder is smaller in size than each divisor may be, no greater than the number that is divided, and on its side of 0
abbrev pub most_left : Range → ℤ
most_left s = int_max (neg_ℤ s.lo) s.hi -ℤ pos 1

abbrev pub least_left : ℤ → ℤ → ℤ
least_left lo most = cond (int_le (pos 0) lo) (pos 0) (int_max lo (neg_ℤ most))

abbrev pub greatest_left : ℤ → ℤ → ℤ
greatest_left hi most = cond (int_le hi (pos 0)) (pos 0) (int_min hi most)

abbrev pub remainders : Range → Range → Option Range
remainders r s = cond (int_le (pos 0) (most_left s)) (Some (range (least_left r.lo (most_left s)) (greatest_left r.hi (most_left s)))) None

abbrev pub shifted_up : ℤ → ℤ → ℤ
shifted_up v n = v *ℤ pos (2 ^ unsigned_abs n)

abbrev pub shifted_down : ℤ → ℤ → ℤ
shifted_down v n = int_shr v (unsigned_abs n)

-- numbers that aren't negative, shifted to the left
abbrev pub shifts_up : Range → Range → Option Range
shifts_up r s = cond (int_le (pos 0) r.hi) (Some (range (shifted_up (int_max r.lo (pos 0)) s.lo) (shifted_up r.hi s.hi))) None

abbrev pub shifts_down : Range → Range → Range
shifts_down r s = corners (shifted_down r.lo s.lo) (shifted_down r.lo s.hi) (shifted_down r.hi s.lo) (shifted_down r.hi s.hi)

-- numbers as small as those of the types
pub record IsShort (r : Range) : Type 0 where
  pub low : neg_ℤ (pos (2 ^ 63)) ≤ℤ r.lo
  pub up : r.lo ≤ℤ r.hi
  pub high : r.hi <ℤ pos (2 ^ 64)

-- how far a number is shifted
pub record IsCount (s : Range) : Type 0 where
  pub low : pos 0 ≤ℤ s.lo
  pub up : s.lo ≤ℤ s.hi
  pub high : s.hi <ℤ pos 64

-- each result of numbers of two ranges lies in the range of results: by 0 nothing is divided (6.5.5p5), and numbers are shifted by numbers that
-- aren't negative (6.5.7p3)
pub record ResultsAreCovered : Type 0 where
  pub sums : (r s : Range) (v w : ℤ) → Spans (Some r) v → Spans (Some s) w → Spans (Some (sums r s)) (v +ℤ w)
  pub differences : (r s : Range) (v w : ℤ) → Spans (Some r) v → Spans (Some s) w → Spans (Some (differences r s)) (v -ℤ w)
  pub products : (r s : Range) (v w : ℤ) → Spans (Some r) v → Spans (Some s) w → Spans (Some (products r s)) (v *ℤ w)
  pub quotients : (r s : Range) (v w : ℤ) → Spans (Some r) v → Spans (Some s) w → w ≢ pos 0 → Spans (quotients r s) (int_div v w)
  pub remainders : (r s : Range) (v w : ℤ) → Spans (Some r) v → Spans (Some s) w → w ≢ pos 0 → Spans (remainders r s) (int_rem v w)
  pub shifts_up : (r s : Range) (v w : ℤ) → Spans (Some r) v → Spans (Some s) w → pos 0 ≤ℤ s.lo → pos 0 ≤ℤ v → Spans (shifts_up r s) (shifted_up v w)
  pub shifts_down : (r s : Range) (v w : ℤ) → Spans (Some r) v → Spans (Some s) w → pos 0 ≤ℤ s.lo → Spans (Some (shifts_down r s)) (shifted_down v w)

-- the ends don't pass each other
abbrev pub IsUp : Range → Type 0
IsUp r = r.lo ≤ℤ r.hi

-- wider ranges have wider ranges of results
pub record ResultsWiden : Type 0 where
  pub sums : (r s u v : Range) → IsPart (Some r) (Some u) → IsPart (Some s) (Some v) → IsPart (Some (sums r s)) (Some (sums u v))
  pub differences : (r s u v : Range) → IsPart (Some r) (Some u) → IsPart (Some s) (Some v) → IsPart (Some (differences r s)) (Some (differences u v))
  pub products : (r s u v : Range) → IsUp r → IsUp s → IsPart (Some r) (Some u) → IsPart (Some s) (Some v) → IsPart (Some (products r s)) (Some (products u v))
  pub quotients : (r s u v : Range) → IsUp r → IsPart (Some r) (Some u) → IsPart (Some s) (Some v) → IsPart (quotients r s) (quotients u v)
  pub remainders : (r s u v : Range) → IsPart (Some r) (Some u) → IsPart (Some s) (Some v) → IsPart (remainders r s) (remainders u v)
  pub shifts_up : (r s u v : Range) → IsUp s → pos 0 ≤ℤ v.lo → IsPart (Some r) (Some u) → IsPart (Some s) (Some v) → IsPart (shifts_up r s) (shifts_up u v)
  pub shifts_down : (r s u v : Range) → IsUp r → IsUp s → pos 0 ≤ℤ v.lo → IsPart (Some r) (Some u) → IsPart (Some s) (Some v) → IsPart (Some (shifts_down r s)) (Some (shifts_down u v))
