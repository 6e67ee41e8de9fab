-- What stands at the front of some bytes.
use Rattle.std.specs.Prelude.{ℕ, ◌≡◌, List, ◌++◌}
use Rattle.po_straight.specs.declared.lexeme.Sign.{Sign}
use Rattle.po_straight.specs.declared.lexeme.Lexeme.{Lexeme}
use Rattle.po_straight.specs.Spelling.{IsSpelling, IsWord, BeginsWithWordByte, Spells}

-- the bytes begin with the sign x, and `left` comes after it
pub record Stands (x : Sign) (bytes left : List ℕ) : Type 0 where
  pub text : List ℕ
  pub parts : bytes ≡ text ++ left
  pub spelled : IsSpelling x text
  pub ends : IsWord x → BeginsWithWordByte left → ⊥

-- The signs `front` were read from the bytes, and `left` comes after them on this line: what spells `left` is what
-- is still to be read of the bytes.
pub record IsFront (front : List Lexeme) (line : ℕ) (left bytes : List ℕ) : Type 0 where
  pub whole : (xs : List Lexeme) → Spells line xs left → Spells 1 (front ++ xs) bytes
  pub part : (ys : List Lexeme) → Spells 1 ys bytes → (xs : List Lexeme) × (ys ≡ front ++ xs) × Spells line xs left
