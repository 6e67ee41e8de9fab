-- Sums of products of numbers of 128 bits, in digits to the base 2^48. Private clauses alone cite these words.
use Rattle.std.specs.Prelude.{ℕ, ◌*◌, ◌^◌, ℤ, pos, neg_ℤ, ◌+ℤ◌, ◌*ℤ◌, ◌≤ℤ◌, List, [], ◌∷◌}
use Rattle.po_holds.specs.declared.exact.Digits.{Digits}
use Rattle.po_holds.specs.declared.exact.Exact.{Exact}

abbrev pub total : List (ℤ × ℤ) → ℤ
total [] = pos 0
total (t ∷ ts) = t.0 *ℤ t.1 +ℤ total ts

-- at most n in size
abbrev pub IsUpTo : ℕ → ℤ → Type 0
IsUpTo n v = (neg_ℤ (pos n) ≤ℤ v) × (v ≤ℤ pos n)

abbrev pub IsDigit : ℤ → Type 0
IsDigit v = IsUpTo (2 ^ 48) v

-- the number that has these digits
abbrev pub number : Digits → ℤ
number d = d.low +ℤ d.middle *ℤ pos (2 ^ 48) +ℤ d.high *ℤ pos (2 ^ 96)

pub record AreDigits (d : Digits) : Type 0 where
  pub low : IsDigit d.low
  pub middle : IsDigit d.middle
  pub high : IsDigit d.high

abbrev pub whole : Exact → ℤ
whole s = s.a +ℤ s.b *ℤ pos (2 ^ 48) +ℤ s.c *ℤ pos (2 ^ 96) +ℤ s.d *ℤ pos (2 ^ 144) +ℤ s.e *ℤ pos (2 ^ 192)

-- what so many products add up to at most
abbrev pub IsAfter : ℕ → ℤ → Type 0
IsAfter n v = IsUpTo (n * 2 ^ 98) v

pub record AreAfter (n : ℕ) (s : Exact) : Type 0 where
  pub a : IsAfter n s.a
  pub b : IsAfter n s.b
  pub c : IsAfter n s.c
  pub d : IsAfter n s.d
  pub e : IsAfter n s.e
