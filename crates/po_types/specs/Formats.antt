-- The formats of printf that are read, and what they read (C99 7.19.6.1).
use Rattle.std.specs.Prelude.{ℕ, ◌≡◌, ◌≢◌, ◌≤◌, List, [], ◌∷◌, ◌++◌, codes, Contains, All, Option, Some, None}
use Rattle.std.specs.List.{cons_option}
use Rattle.po_arith.specs.declared.target.Target.{Target}
use Rattle.po_types.specs.declared.format.Spec.{Spec}
use Rattle.po_types.specs.declared.format.Spec.TheVariants as f

-- the letters of a conversion, and what it reads
abbrev pub conversions : List (List ℕ × Spec)
conversions =
    (codes "d", f.Int) ∷ (codes "i", f.Int) ∷ (codes "u", f.Int) ∷ (codes "x", f.Int) ∷ (codes "c", f.Int) ∷
    (codes "ld", f.Long) ∷ (codes "li", f.Long) ∷ (codes "lu", f.Long) ∷ (codes "lx", f.Long) ∷ (codes "zu", f.Size) ∷ (codes "s", f.Text) ∷ []

abbrev pub flags : List ℕ
flags = codes "-0+ #"

abbrev pub IsDigit : ℕ → Type 0
IsDigit b = (48 ≤ b) × (b ≤ 57)

-- a width in decimal, which may be missing; a zero before it is a flag
pub data IsFieldWidth : List ℕ → Type 0 where
  no_width : IsFieldWidth []
  width : (b : ℕ) (bs : List ℕ) → 49 ≤ b → b ≤ 57 → All IsDigit bs → IsFieldWidth (b ∷ bs)

-- the flag `#` stands only with `x`, and the flag `0` with numbers (7.19.6.1p6)
pub record FlagsFit (given letters : List ℕ) : Type 0 where
  pub number_sign : Contains given 35 → Contains (codes "x" ∷ codes "lx" ∷ []) letters
  pub zero : Contains given 48 → Contains (codes "c" ∷ codes "s" ∷ []) letters → ⊥

-- flags, a width and the letters of a conversion stand first in the text, with the rest behind them; it reads spec
pub record IsConversion (text : List ℕ) (spec : Spec) (rest : List ℕ) : Type 0 where
  pub given : List ℕ
  pub width : List ℕ
  pub letters : List ℕ
  pub splits : text ≡ given ++ (width ++ (letters ++ rest))
  pub are_flags : All (Contains flags) given
  pub field_width : IsFieldWidth width
  pub reads : Contains conversions (letters, spec)
  pub fit : FlagsFit given letters

-- the first piece of a format, what it reads, and what stands behind it: a plain byte, `%%`, or `%` and a conversion
pub data IsPiece (text : List ℕ) (read : Option Spec) (rest : List ℕ) : Type 0 where
  plain_byte : (b : ℕ) → text ≡ b ∷ rest → b ≢ 37 → b ≢ 0 → read ≡ None → IsPiece text read rest
  percent_sign : text ≡ 37 ∷ 37 ∷ rest → read ≡ None → IsPiece text read rest
  conversion : (behind : List ℕ) (spec : Spec) → text ≡ 37 ∷ behind → IsConversion behind spec rest → read ≡ Some spec → IsPiece text read rest

-- pieces one behind the other, and what they read in order; on each target they are the same
pub data IsFormat (target : Target) : List ℕ → List Spec → Type 0 where
  format_end : IsFormat target [] []
  piece : (text rest : List ℕ) (read : Option Spec) (others specs : List Spec) → IsPiece text read rest → IsFormat target rest others →
      specs ≡ cons_option read others → IsFormat target text specs
