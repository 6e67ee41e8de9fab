-- The values of constants, and what operators make of numbers, exactly (C99 6.4.4, 6.4.5, 6.5, 6.6).
use Rattle.std.specs.Prelude.{ℕ, ◌+◌, ◌*◌, ◌<◌, ◌≡◌, ◌≢◌, Bool, true, false, cond, ◌==◌, ◌||◌, not, nat_lt, List, [], ◌∷◌, ◌++◌, drop, Some, ℤ, pos, neg_ℤ, ◌+ℤ◌, ◌-ℤ◌, ◌*ℤ◌, ◌≤ℤ◌, ◌<ℤ◌}
use Rattle.po_arith.specs.declared.int_type.IntType.{IntType}
use Rattle.po_arith.specs.declared.target.Target.{Target}
use Rattle.po_arith.specs.Types.{IsOfType, IsWrapped, greatest}
use Rattle.po_arith.specs.Division.{IsDivided}
use Rattle.po_arith.specs.Shifts.{shifted_left, IsShiftedRight}
use Rattle.po_arith.specs.Bits.{IsAnd, IsOr, IsXor}
use Rattle.po_base.specs.declared.operators.Op.{Op}
use Rattle.po_base.specs.declared.operators.Op.TheVariants as op
use Rattle.po_tree.specs.Literals.{digit, is_digit, behind_integer, IsInteger, Characters}
use Rattle.po_types.specs.Integers.{constant_type, bool_type}

-- the value of the digits at the front, behind digits of this value
abbrev pub digits_value : ℕ → ℕ → List ℕ → ℕ
digits_value base value [] = value
digits_value base value (c ∷ cs) = cond (is_digit base c) (digits_value base (base * value + digit c) cs) value

-- whether the second byte makes it a hexadecimal constant
abbrev pub is_x : List ℕ → Bool
is_x [] = false
is_x (c ∷ cs) = (c == 120) || (c == 88)

-- the value of an integer constant: hexadecimal, octal or decimal (6.4.4.1p4)
abbrev pub integer_value : List ℕ → ℕ
integer_value [] = 0
integer_value (c ∷ cs) =
    cond (not (c == 48)) (digits_value 10 0 (c ∷ cs)) (cond (is_x cs) (digits_value 16 0 (drop 1 cs)) (digits_value 8 0 (c ∷ cs)))

abbrev pub is_decimal : List ℕ → Bool
is_decimal [] = false
is_decimal (c ∷ cs) = not (c == 48)

-- whether a suffix has a `u`, and how many times it has an `l`
abbrev pub has_u : List ℕ → Bool
has_u [] = false
has_u (c ∷ cs) = (c == 117) || ((c == 85) || has_u cs)

abbrev pub count_l : List ℕ → ℕ
count_l [] = 0
count_l (c ∷ cs) = cond ((c == 108) || (c == 76)) (1 + count_l cs) (count_l cs)

-- an integer constant of this type and value (6.4.4.1p5)
pub record IsNumber (target : Target) (text : List ℕ) (t : IntType) (value : ℕ) : Type 0 where
  pub suffix : List ℕ
  pub integer : IsInteger text
  pub behind : behind_integer text ≡ Some suffix
  pub valued : integer_value text ≡ value
  pub typed : constant_type target (has_u suffix) (is_decimal text) (count_l suffix) value ≡ Some t

-- a character has the value of a signed char (6.4.4.4p10)
abbrev pub as_signed_char : ℕ → ℤ
as_signed_char n = cond (nat_lt n 128) (pos n) (pos n -ℤ pos 256)

pub record IsCharacterOf (text : List ℕ) (value : ℤ) : Type 0 where
  pub character : ℕ
  pub rest : List ℕ
  pub quoted : text ≡ 39 ∷ rest
  pub single : Characters 39 (character ∷ []) rest
  pub signed : value ≡ as_signed_char character

-- AreStrings texts values: string literals side by side have these characters (6.4.5p4)
pub data AreStrings : List (List ℕ) → List ℕ → Type 0 where
  no_more_strings : AreStrings [] []
  one_more_string : (rest values others : List ℕ) (texts : List (List ℕ)) → Characters 34 values rest → AreStrings texts others →
      AreStrings ((34 ∷ rest) ∷ texts) (values ++ others)

-- Becomes t v w: a constant v that is converted to t is w; to a signed type only where it fits (6.3.1.2, 6.3.1.3)
pub data Becomes : IntType → ℤ → ℤ → Type 0 where
  zero_bool : Becomes bool_type (pos 0) (pos 0)
  other_bool : (v : ℤ) → v ≢ pos 0 → Becomes bool_type v (pos 1)
  wrapped : (t : IntType) (v w : ℤ) → t ≢ bool_type → t.signed ≡ false → IsWrapped t v w → Becomes t v w
  fitting : (t : IntType) (v : ℤ) → t.signed ≡ true → IsOfType t v → Becomes t v v

-- Kept t v w: the exact result v of an operation in the type t gives w: of a signed type only where it fits (6.2.5p9, 6.5p5)
pub data Kept (t : IntType) : ℤ → ℤ → Type 0 where
  kept_unsigned : (v w : ℤ) → t.signed ≡ false → IsWrapped t v w → Kept t v w
  kept_signed : (v : ℤ) → t.signed ≡ true → IsOfType t v → Kept t v v

-- Computes o t v w r: numbers v and w of the type t give the exact result r (6.5.5 to 6.5.12)
pub data Computes : Op → IntType → ℤ → ℤ → ℤ → Type 0 where
  added : (t : IntType) (v w r : ℤ) → Kept t (v +ℤ w) r → Computes op.Add t v w r
  subtracted : (t : IntType) (v w r : ℤ) → Kept t (v -ℤ w) r → Computes op.Sub t v w r
  multiplied : (t : IntType) (v w r : ℤ) → Kept t (v *ℤ w) r → Computes op.Mul t v w r
  divided : (t : IntType) (v w q rest r : ℤ) → w ≢ pos 0 → IsDivided v w q rest → Kept t q r → Computes op.Div t v w r
  remainder : (t : IntType) (v w q rest r s : ℤ) → w ≢ pos 0 → IsDivided v w q rest → Kept t q s → Kept t rest r → Computes op.Rem t v w r
  conjoined : (t : IntType) (v w r : ℤ) → IsAnd v w r → Computes op.And t v w r
  disjoined : (t : IntType) (v w r : ℤ) → IsOr v w r → Computes op.Or t v w r
  differing : (t : IntType) (v w r : ℤ) → IsXor v w r → Computes op.Xor t v w r

-- all bits inverted (6.5.3.3p4)
abbrev pub complemented : IntType → ℤ → ℤ
complemented t v = cond t.signed (neg_ℤ (pos 1) -ℤ v) (greatest t -ℤ v)

-- a shift by n, where n is less than the width (6.5.7p3 to p5)
pub data Shifts : Op → IntType → ℤ → ℕ → ℤ → Type 0 where
  to_the_left : (t : IntType) (v r : ℤ) (n : ℕ) → n < t.bits → Kept t (shifted_left v n) r → Shifts op.Shl t v n r
  to_the_right : (t : IntType) (v r : ℤ) (n : ℕ) → n < t.bits → IsShiftedRight v n r → Shifts op.Shr t v n r

-- what a comparison says of two numbers (6.5.8p6, 6.5.9p3)
abbrev pub Holds : Op → ℤ → ℤ → Type 0
Holds op.Eq v w = v ≡ w
Holds op.Ne v w = v ≢ w
Holds op.Lt v w = v <ℤ w
Holds op.Le v w = v ≤ℤ w
Holds op.Gt v w = w <ℤ v
Holds op.Ge v w = w ≤ℤ v
Holds _ v w = ⊥

pub data Compares (o : Op) (v w : ℤ) : ℤ → Type 0 where
  it_holds : Holds o v w → Compares o v w (pos 1)
  it_fails : (Holds o v w → ⊥) → Compares o v w (pos 0)
