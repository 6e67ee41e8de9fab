-- The integer types of a target, their promotion and their usual conversion, and the types of constants (C99 6.2.5, 6.3.1, 6.4.4.1).
use Rattle.std.specs.Prelude.{ℕ, ◌*◌, ◌^◌, ◌-◌, ◌+◌, ◌/◌, Bool, true, false, cond, nat_lt, List, [], ◌∷◌, flat_map, drop, Option, Some, None}
use Rattle.po_arith.specs.declared.int_type.IntType.{IntType}
use Rattle.po_arith.specs.declared.target.Target.{Target}
use Rattle.po_arith.specs.declared.target.Target.TheVariants as t

-- the bytes of a long, of a pointer and of size_t, which are their alignment too
abbrev pub word_bytes : Target → ℕ
word_bytes t.L64 = 8

abbrev pub signed_type : ℕ → IntType
signed_type bits = record { bits = bits; signed = true }

abbrev pub unsigned_type : ℕ → IntType
unsigned_type bits = record { bits = bits; signed = false }

abbrev pub bool_type : IntType
bool_type = unsigned_type 1

abbrev pub char_type : IntType
char_type = signed_type 8

abbrev pub int_type : IntType
int_type = signed_type 32

abbrev pub long_type : Target → IntType
long_type target = signed_type (8 * word_bytes target)

-- size_t and ptrdiff_t (7.17)
abbrev pub size_type : Target → IntType
size_type target = unsigned_type (8 * word_bytes target)

abbrev pub difference_type : Target → IntType
difference_type target = signed_type (8 * word_bytes target)

-- the greatest number of ptrdiff_t: no object has more bytes
abbrev pub most_bytes : Target → ℕ
most_bytes target = 2 ^ (8 * word_bytes target - 1) - 1

-- how many bytes a number of the type takes: _Bool has one of its own
abbrev pub int_bytes : IntType → ℕ
int_bytes t = (t.bits + 7) / 8

-- integer promotion: an int holds all numbers of a narrower type (6.3.1.1p2)
abbrev pub promoted : IntType → IntType
promoted t = cond (nat_lt t.bits 32) int_type t

-- of types of one sign, the one of the greater rank
abbrev pub greater_rank : IntType → IntType → IntType
greater_rank a b = cond (nat_lt a.bits b.bits) b a

-- of an unsigned and a signed type: the unsigned one unless its rank is less, and else the signed one, which holds all its numbers
abbrev pub of_two_signs : IntType → IntType → IntType
of_two_signs u s = cond (nat_lt u.bits s.bits) s u

-- the usual arithmetic conversions of two promoted types (6.3.1.8p1)
abbrev pub balanced : IntType → IntType → IntType
balanced a b = cond a.signed (cond b.signed (greater_rank a b) (of_two_signs b a)) (cond b.signed (of_two_signs a b) (greater_rank a b))

abbrev pub common : IntType → IntType → IntType
common a b = balanced (promoted a) (promoted b)

-- the widths of int, long and long long, less the first ones where the suffix has an `l` or two
abbrev pub constant_widths : Target → ℕ → List ℕ
constant_widths target longs = drop longs (32 ∷ 8 * word_bytes target ∷ 64 ∷ [])

-- the types of a width that a constant may have: with `u` the unsigned one, else the signed one, and that alone where it is decimal
abbrev pub of_width : Bool → Bool → ℕ → List IntType
of_width true decimal bits = unsigned_type bits ∷ []
of_width false true bits = signed_type bits ∷ []
of_width false false bits = signed_type bits ∷ unsigned_type bits ∷ []

-- the table of 6.4.4.1p5: the types of a constant, in order
abbrev pub constant_types : Target → Bool → Bool → ℕ → List IntType
constant_types target unsigned decimal longs = flat_map (of_width unsigned decimal) (constant_widths target longs)

-- whether the type holds the number
abbrev pub holds : IntType → ℕ → Bool
holds t n = nat_lt n (cond t.signed (2 ^ (t.bits - 1)) (2 ^ t.bits))

-- the first type that holds the number
abbrev pub first_to_hold : ℕ → List IntType → Option IntType
first_to_hold n [] = None
first_to_hold n (t ∷ ts) = cond (holds t n) (Some t) (first_to_hold n ts)

-- the type of an integer constant of this value, with its suffix's `u` and its count of `l` (6.4.4.1p5)
abbrev pub constant_type : Target → Bool → Bool → ℕ → ℕ → Option IntType
constant_type target unsigned decimal longs value = first_to_hold value (constant_types target unsigned decimal longs)
