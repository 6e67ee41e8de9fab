-- The bytes and characters of string literals (C99 6.4.5).
use Rattle.std.specs.Prelude.{ℕ, ◌-◌, nat_lt, ◌≡◌, ℤ, pos, neg_ℤ, List, [], ◌∷◌, ◌++◌, length, map, cond, Option, Some, None}
use Rattle.po_tree.specs.Literals.{Characters}

-- Spells texts bytes: literals side by side are these bytes, without the zero byte at their end
pub data Spells : List (List ℕ) → List ℕ → Type 0 where
  no_more_texts : Spells [] []
  one_more_text : (text rest values : List ℕ) (texts : List (List ℕ)) (bytes : List ℕ) → text ≡ 34 ∷ rest → Characters 34 values rest →
      Spells texts bytes → Spells (text ∷ texts) (values ++ bytes)

-- a byte as a signed char
abbrev pub character_value : ℕ → ℤ
character_value byte = cond (nat_lt byte 128) (pos byte) (neg_ℤ (pos (256 - byte)))

-- the zero byte at the end, where an array of so many elements has room for it (6.7.8p14)
abbrev pub final_zero : Option ℕ → List ℕ → List ℤ
final_zero None bytes = []
final_zero (Some count) bytes = cond (nat_lt (length bytes) count) (pos 0 ∷ []) []

abbrev pub characters_given : Option ℕ → List ℕ → List ℤ
characters_given count bytes = map character_value bytes ++ final_zero count bytes
