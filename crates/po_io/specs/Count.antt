-- Counts of faults: numbers of 64 bits that start at 0, rise and never fall.
use Rattle.std.specs.Prelude.{ℕ, ◌+◌, ◌-◌, ◌^◌, ◌≤◌, min}

-- a count that rises once: one more, but at the greatest number of 64 bits it stays
abbrev pub risen : ℕ → ℕ
risen count = min (count + 1) (2 ^ 64 - 1)

-- over a call a count rose: at the end it is greater than before, or stands at the greatest number of 64 bits
abbrev pub Rose : ℕ → ℕ → Type 0
Rose before after = risen before ≤ after
