-- Shifts of whole numbers (6.5.7p4, p5).
use Rattle.std.specs.Prelude.{ℕ, ◌^◌, ◌≡◌, ℤ, pos, ◌+ℤ◌, ◌*ℤ◌, ◌≤ℤ◌, ◌<ℤ◌}

-- v times 2 to the n
abbrev pub shifted_left : ℤ → ℕ → ℤ
shifted_left v n = v *ℤ pos (2 ^ n)

-- q is v over 2 to the n, rounded down
abbrev pub IsShiftedRight : ℤ → ℕ → ℤ → Type 0
IsShiftedRight v n q = ((q *ℤ pos (2 ^ n)) ≤ℤ v) × (v <ℤ ((q +ℤ pos 1) *ℤ pos (2 ^ n)))

-- there is one such number at most
abbrev pub OneShiftedRight : Type 0
OneShiftedRight = (v q p : ℤ) (n : ℕ) → IsShiftedRight v n q → IsShiftedRight v n p → q ≡ p
