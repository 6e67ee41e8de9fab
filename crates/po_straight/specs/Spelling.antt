-- Which bytes spell which signs: the lexical grammar of the served language (C99 6.4).
use Rattle.std.specs.Prelude.{ℕ, ◌+◌, ◌^◌, ◌<◌, ◌≤◌, ◌≡◌, ◌⊎◌, List, [], ◌∷◌, ◌++◌, All, Contains, count_by, codes, decimal, ◌==◌}
use Rattle.po_straight.specs.declared.lexeme.Sign.{Sign}
use Rattle.po_straight.specs.declared.lexeme.Sign.TheVariants as s
use Rattle.po_straight.specs.declared.lexeme.Lexeme.{Lexeme}

-- space, tab and newline
abbrev pub IsBlank : ℕ → Type 0
IsBlank c = (c ≡ 32) ⊎ (c ≡ 9) ⊎ (c ≡ 10)

-- how many lines end in these bytes
abbrev pub newlines : List ℕ → ℕ
newlines bytes = count_by (λ c. c == 10) bytes

abbrev pub IsDigit : ℕ → Type 0
IsDigit c = (48 ≤ c) × (c ≤ 57)

-- a letter or `_` (6.4.2.1)
abbrev pub IsNondigit : ℕ → Type 0
IsNondigit c = (65 ≤ c) × (c ≤ 90) ⊎ (97 ≤ c) × (c ≤ 122) ⊎ (c ≡ 95)

-- a byte of a name, a keyword or a constant
abbrev pub IsWordByte : ℕ → Type 0
IsWordByte c = IsDigit c ⊎ IsNondigit c

-- the keywords of C99 (6.4.1)
abbrev pub keywords : List (List ℕ)
keywords =
    codes "auto" ∷ codes "break" ∷ codes "case" ∷ codes "char" ∷ codes "const" ∷ codes "continue" ∷ codes "default" ∷ codes "do" ∷
    codes "double" ∷ codes "else" ∷ codes "enum" ∷ codes "extern" ∷ codes "float" ∷ codes "for" ∷ codes "goto" ∷ codes "if" ∷
    codes "inline" ∷ codes "int" ∷ codes "long" ∷ codes "register" ∷ codes "restrict" ∷ codes "return" ∷ codes "short" ∷ codes "signed" ∷
    codes "sizeof" ∷ codes "static" ∷ codes "struct" ∷ codes "switch" ∷ codes "typedef" ∷ codes "union" ∷ codes "unsigned" ∷ codes "void" ∷
    codes "volatile" ∷ codes "while" ∷ codes "_Bool" ∷ codes "_Complex" ∷ codes "_Imaginary" ∷ []

-- a letter or `_`, then letters, digits and `_` (6.4.2.1)
abbrev pub IsIdentifier : List ℕ → Type 0
IsIdentifier [] = ⊥
IsIdentifier (c ∷ cs) = IsNondigit c × All IsWordByte cs

abbrev pub IsName : List ℕ → Type 0
IsName text = IsIdentifier text × (Contains keywords text → ⊥)

-- the bytes of a sign
abbrev pub IsSpelling : Sign → List ℕ → Type 0
IsSpelling s.Int text = text ≡ codes "int"
IsSpelling s.Void text = text ≡ codes "void"
IsSpelling s.Return text = text ≡ codes "return"
IsSpelling (s.Name name) text = IsName name × (text ≡ name)
IsSpelling (s.Constant value) text = (value < 2 ^ 31) × (text ≡ decimal value)
IsSpelling s.Plus text = text ≡ codes "+"
IsSpelling s.Minus text = text ≡ codes "-"
IsSpelling s.Star text = text ≡ codes "*"
IsSpelling s.Slash text = text ≡ codes "/"
IsSpelling s.Percent text = text ≡ codes "%"
IsSpelling s.Open text = text ≡ codes "("
IsSpelling s.Close text = text ≡ codes ")"
IsSpelling s.OpenBrace text = text ≡ codes "{"
IsSpelling s.CloseBrace text = text ≡ codes "}"
IsSpelling s.Comma text = text ≡ codes ","
IsSpelling s.Semicolon text = text ≡ codes ";"

-- a name, a keyword or a constant, which is made of word bytes
abbrev pub IsWord : Sign → Type 0
IsWord s.Int = Unit {0}
IsWord s.Void = Unit {0}
IsWord s.Return = Unit {0}
IsWord (s.Name name) = Unit {0}
IsWord (s.Constant value) = Unit {0}
IsWord _ = ⊥

abbrev pub BeginsWithWordByte : List ℕ → Type 0
BeginsWithWordByte [] = ⊥
BeginsWithWordByte (c ∷ cs) = IsWordByte c

-- Spells line signs bytes: the bytes, which begin on this line, are those of the signs in their order.
-- Blanks may stand before, between and after the signs, and between two neighbouring words one stands at least.
pub data Spells : ℕ → List Lexeme → List ℕ → Type 0 where
  nothing : (line : ℕ) (blanks : List ℕ) → All IsBlank blanks → Spells line [] blanks
  sign : (line : ℕ) (blanks text rest : List ℕ) (x : Sign) (xs : List Lexeme) →
      All IsBlank blanks → IsSpelling x text → (IsWord x → BeginsWithWordByte rest → ⊥) →
      Spells (line + newlines blanks) xs rest →
      Spells line (record { sign = x; line = line + newlines blanks } ∷ xs) (blanks ++ (text ++ rest))
