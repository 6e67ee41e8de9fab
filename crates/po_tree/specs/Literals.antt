-- Integer constants, character constants and string literals (C99 6.4.4.1, 6.4.4.4, 6.4.5).
use Rattle.std.specs.Prelude.{ℕ, zero, suc, ◌+◌, ◌*◌, ◌-◌, Bool, cond, ◌==◌, ◌&&◌, ◌||◌, nat_le, nat_lt, List, [], ◌∷◌, length, codes, Option, Some, None, Contains, ◌≡◌}

-- the value of a digit; 16 where the byte is none
abbrev pub digit : ℕ → ℕ
digit c =
    cond (nat_le 48 c && nat_le c 57) (c - 48)
    (cond (nat_le 97 c && nat_le c 102) (c - 87)
    (cond (nat_le 65 c && nat_le c 70) (c - 55) 16))

abbrev pub is_digit : ℕ → ℕ → Bool
is_digit base c = nat_lt (digit c) base

-- what stands behind the longest row of digits at the front
abbrev pub behind_digits : ℕ → List ℕ → List ℕ
behind_digits base [] = []
behind_digits base (c ∷ cs) = cond (is_digit base c) (behind_digits base cs) (c ∷ cs)

abbrev pub suffixes : List (List ℕ)
suffixes =
    [] ∷ codes "u" ∷ codes "U" ∷ codes "l" ∷ codes "L" ∷ codes "ll" ∷ codes "LL" ∷
    codes "ul" ∷ codes "uL" ∷ codes "ull" ∷ codes "uLL" ∷ codes "Ul" ∷ codes "UL" ∷ codes "Ull" ∷ codes "ULL" ∷
    codes "lu" ∷ codes "lU" ∷ codes "Lu" ∷ codes "LU" ∷ codes "llu" ∷ codes "llU" ∷ codes "LLu" ∷ codes "LLU" ∷ []

-- behind `0`: `x`, a hexadecimal digit and further ones; or octal digits
abbrev pub behind_zero : List ℕ → List ℕ
behind_zero [] = []
behind_zero (x ∷ []) = behind_digits 8 (x ∷ [])
behind_zero (x ∷ d ∷ ds) = cond (((x == 120) || (x == 88)) && is_digit 16 d) (behind_digits 16 ds) (behind_digits 8 (x ∷ d ∷ ds))

-- what stands behind the digits of an integer constant at the front; None where none begins there
abbrev pub behind_integer : List ℕ → Option (List ℕ)
behind_integer [] = None
behind_integer (c ∷ cs) = cond (c == 48) (Some (behind_zero cs)) (cond (is_digit 10 c) (Some (behind_digits 10 cs)) None)

-- an integer constant: its digits, then a suffix
abbrev pub IsInteger : List ℕ → Type 0
IsInteger text = (suffix : List ℕ) × (behind_integer text ≡ Some suffix) × Contains suffixes suffix

-- `\' \" \? \\ \a \b \f \n \r \t \v`, by the byte behind the backslash, and their values; None for any other byte
abbrev pub simple : ℕ → Option ℕ
simple c =
    cond ((c == 39) || (c == 34) || (c == 63) || (c == 92)) (Some c)
    (cond (c == 97) (Some 7) (cond (c == 98) (Some 8) (cond (c == 102) (Some 12)
    (cond (c == 110) (Some 10) (cond (c == 114) (Some 13) (cond (c == 116) (Some 9) (cond (c == 118) (Some 11) None)))))))

-- The row of at most `most` digits at the front, behind digits of this value: its value and what stands behind it.
-- None where the value passes 255.
abbrev pub row : ℕ → ℕ → ℕ → List ℕ → Option (ℕ × List ℕ)
row base zero value cs = Some (value, cs)
row base (suc most) value [] = Some (value, [])
row base (suc most) value (c ∷ cs) =
    cond (is_digit base c)
    (cond (nat_le (base * value + digit c) 255) (row base most (base * value + digit c) cs) None)
    (Some (value, c ∷ cs))

-- behind `\x`: hexadecimal digits, one at least
abbrev pub hexadecimal : List ℕ → Option (ℕ × List ℕ)
hexadecimal [] = None
hexadecimal (c ∷ cs) = cond (is_digit 16 c) (row (16) (suc (length cs)) 0 (c ∷ cs)) None

-- a simple escape with what stands behind it
abbrev pub escaped : Option ℕ → List ℕ → Option (ℕ × List ℕ)
escaped None cs = None
escaped (Some value) cs = Some (value, cs)

-- the escape whose backslash stands before these bytes: its value and what stands behind it
abbrev pub escape : List ℕ → Option (ℕ × List ℕ)
escape [] = None
escape (c ∷ cs) = cond (is_digit 8 c) (row (8) 3 0 (c ∷ cs)) (cond (c == 120) (hexadecimal cs) (escaped (simple c) cs))

-- the character at the front of a literal with this quote: its value and what stands behind it
abbrev pub first_character : ℕ → List ℕ → Option (ℕ × List ℕ)
first_character quote [] = None
first_character quote (c ∷ cs) = cond (c == 92) (escape cs) (cond ((c == quote) || (c == 10)) None (Some (c, cs)))

-- Characters quote values text: the text is characters of these values, and then the quote.
pub data Characters (quote : ℕ) : List ℕ → List ℕ → Type 0 where
  end_quote : Characters quote [] (quote ∷ [])
  next_character : (value : ℕ) (values cs rest : List ℕ) → first_character quote cs ≡ Some (value, rest) →
      Characters quote values rest → Characters quote (value ∷ values) cs

-- a character constant of one character
abbrev pub IsCharacter : List ℕ → Type 0
IsCharacter text = (value : ℕ) × (rest : List ℕ) × (text ≡ 39 ∷ rest) × Characters 39 (value ∷ []) rest

abbrev pub IsString : List ℕ → Type 0
IsString text = (values : List ℕ) × (rest : List ℕ) × (text ≡ 34 ∷ rest) × Characters 34 values rest
