-- Division of whole numbers as C divides (6.5.5p5, p6).
use Rattle.std.specs.Prelude.{◌<◌, ◌≡◌, ◌≢◌, ℤ, pos, ◌+ℤ◌, ◌*ℤ◌, ◌≤ℤ◌}
use Rattle.std.specs.Int.RustNames.{int_div, int_rem, unsigned_abs}

-- the numbers lie on one side of 0
abbrev pub AreOnOneSide : ℤ → ℤ → Type 0
AreOnOneSide v w = (pos 0 ≤ℤ v → pos 0 ≤ℤ w) × (v ≤ℤ pos 0 → w ≤ℤ pos 0)

-- a is q times b and r, where r is smaller than b and on the side of a: the fraction of the quotient is discarded
pub record IsDivided (a b q r : ℤ) : Type 0 where
  pub parts : a ≡ q *ℤ b +ℤ r
  pub smaller : unsigned_abs r < unsigned_abs b
  pub side : AreOnOneSide a r

-- std's words for quotient and remainder mean just that
abbrev pub DivisionIsC99 : Type 0
DivisionIsC99 = (a b : ℤ) → b ≢ pos 0 → IsDivided a b (int_div a b) (int_rem a b)

-- there is one quotient and one remainder
abbrev pub OneDivision : Type 0
OneDivision = (a b q r p s : ℤ) → IsDivided a b q r → IsDivided a b p s → (q ≡ p) × (r ≡ s)
