-- The integer types and their numbers (6.2.5, 6.2.6.2).
use Rattle.std.specs.Prelude.{ℕ, ◌-◌, ◌^◌, ◌≡◌, ◌⊎◌, false, cond, ℤ, pos, neg_ℤ, ◌+ℤ◌, ◌*ℤ◌, ◌≤ℤ◌}
use Rattle.po_arith.specs.declared.int_type.IntType.{IntType}

-- numbers that the calls of this crate take
abbrev pub IsSmall : ℤ → Type 0
IsSmall v = (neg_ℤ (pos (2 ^ 120)) ≤ℤ v) × (v ≤ℤ pos (2 ^ 120))

abbrev pub IsWidth : ℕ → Type 0
IsWidth bits = (bits ≡ 1) ⊎ ((bits ≡ 8) ⊎ ((bits ≡ 16) ⊎ ((bits ≡ 32) ⊎ (bits ≡ 64))))

-- a type of the target; that of 1 bit, _Bool, is unsigned
pub record IsIntType (t : IntType) : Type 0 where
  pub width : IsWidth t.bits
  pub bool_unsigned : t.bits ≡ 1 → t.signed ≡ false

-- the least and the greatest number of a type
abbrev pub least : IntType → ℤ
least t = cond t.signed (neg_ℤ (pos (2 ^ (t.bits - 1)))) (pos 0)

abbrev pub greatest : IntType → ℤ
greatest t = cond t.signed (pos (2 ^ (t.bits - 1) - 1)) (pos (2 ^ t.bits - 1))

-- v is a number of the type
abbrev pub IsOfType : IntType → ℤ → Type 0
IsOfType t v = (least t ≤ℤ v) × (v ≤ℤ greatest t)

-- v and w differ by a multiple of m
abbrev pub AreCongruent : ℕ → ℤ → ℤ → Type 0
AreCongruent m v w = (k : ℤ) × (v ≡ w +ℤ k *ℤ pos m)

-- w is the number of the type that is congruent to v modulo 2 to the width (6.3.1.3p2)
abbrev pub IsWrapped : IntType → ℤ → ℤ → Type 0
IsWrapped t v w = IsOfType t w × AreCongruent (2 ^ t.bits) v w

-- there is one such number at most
abbrev pub OneWrapped : Type 0
OneWrapped = (t : IntType) (v w u : ℤ) → IsIntType t → IsWrapped t v w → IsWrapped t v u → w ≡ u
