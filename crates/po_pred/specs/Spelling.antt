-- The spelling of predicates.
use Rattle.std.specs.Prelude.{ℕ, ℤ, pos, negsuc, neg_ℤ, ◌*ℤ◌, ◌++◌, ◌==◌, ◌&&◌, ◌^◌, Bool, List, [], ◌∷◌, codes, take, count_by, Option, Some, None, slice_get, slice_index_or, cond, is_none, int_lt}
use Rattle.std.specs.Fmt.{decimal, signed_decimal}
use Rattle.std.specs.Ordering.{int_eq}
use Rattle.po_pred.specs.declared.pred.Atom.{Atom}
use Rattle.po_pred.specs.declared.pred.Atom.TheVariants.{Reg, Param}
use Rattle.po_pred.specs.declared.pred.Place.{Place}
use Rattle.po_pred.specs.declared.pred.Over.{Over}
use Rattle.po_pred.specs.declared.pred.Over.TheVariants.{Add, Sub, Mul, Div, Rem, Shl, Neg}
use Rattle.po_pred.specs.declared.pred.Why.{Why}
use Rattle.po_pred.specs.declared.pred.Why.TheVariants.{Unread, End, Extern}
use Rattle.po_pred.specs.declared.pred.Pred.{Pred}
use Rattle.po_pred.specs.declared.pred.Pred.TheVariants.{RegSet, IntIn, Aligned, Never}
use Rattle.po_pred.specs.declared.view.View.{View}
use Rattle.po_pred.specs.View.{view_of}

-- a name for each register, where it has one
abbrev pub Names : Type 0
Names = List (Option (List ℕ))

-- `%k`, where k registers without a name stand before
abbrev pub temporary_text : Names → List ℕ
temporary_text before = codes "%" ++ decimal (count_by is_none before)

abbrev pub name_text : Option (Option (List ℕ)) → Names → List ℕ
name_text (Some (Some name)) before = name
name_text (Some None) before = temporary_text before
name_text None before = temporary_text before

-- a register's name, or `%k` with k the number of registers without a name before it
abbrev pub register_text : Names → ℕ → List ℕ
register_text names r = name_text (slice_get names r) (take r names)

-- a parameter at the function's entry is `$i`
abbrev pub atom_text : Names → Atom → List ℕ
atom_text names (Reg r) = register_text names r.0
atom_text names (Param i) = codes "$" ++ decimal i

abbrev pub with_sign : ℤ → List ℕ
with_sign (pos n) = codes "+" ++ decimal n
with_sign (negsuc n) = signed_decimal (negsuc n)

-- a number, or a range of numbers as `2..5`
abbrev pub range_text : ℤ → ℤ → List ℕ
range_text lo hi = cond (int_eq lo hi) (signed_decimal lo) (signed_decimal lo ++ codes ".." ++ signed_decimal hi)

-- what follows an atom: nothing, one offset, or a range of them as `+0..3`
abbrev pub offset_text : ℤ → ℤ → List ℕ
offset_text lo hi = cond (int_eq lo hi) (cond (int_eq lo (pos 0)) [] (with_sign lo)) (with_sign lo ++ codes ".." ++ signed_decimal hi)

abbrev pub text_at : Option Atom → Names → ℤ → ℤ → List ℕ
text_at None names lo hi = range_text lo hi
text_at (Some a) names lo hi = atom_text names a ++ offset_text lo hi

abbrev pub place_text : Names → Place → List ℕ
place_text names p = text_at p.atom names p.lo p.hi

-- below 2^64 in size, as all numbers of a project are that stand behind a factor
abbrev pub is_narrow : ℤ → Bool
is_narrow v = int_lt (neg_ℤ (pos (2 ^ 64))) v && int_lt v (pos (2 ^ 64))

-- a factor before a place, whose offset isn't multiplied
abbrev pub factor_text : Names → ℤ → Place → List ℕ
factor_text names k p = signed_decimal k ++ codes "*" ++ place_text names p

abbrev pub multiplied : ℤ → Place → Place
multiplied k p = record { atom = None; lo = k *ℤ p.lo; hi = k *ℤ p.hi }

abbrev pub multiplied_text : ℤ → Place → List ℕ
multiplied_text k p = range_text (multiplied k p).lo (multiplied k p).hi

-- numbers are multiplied out, and stay in their order where the factor is negative
abbrev pub numbers_text : Names → ℤ → Place → List ℕ
numbers_text names k p = cond (is_narrow p.lo) (cond (is_narrow p.hi) (multiplied_text k p) (factor_text names k p)) (factor_text names k p)

abbrev pub multiple_text : Option Atom → Names → ℤ → Place → List ℕ
multiple_text None names k p = numbers_text names k p
multiple_text (Some a) names k p = factor_text names k p

-- a place and the factor before it, where that isn't 1
abbrev pub scaled_text : Names → ℤ → Place → List ℕ
scaled_text names k p = cond (int_eq k (pos 1)) (place_text names p) (multiple_text p.atom names k p)

-- the kinds in their order
abbrev pub kind_names : List (List ℕ)
kind_names = codes "not_null" ∷ codes "live" ∷ codes "span" ∷ codes "filled" ∷ codes "reg_set" ∷ codes "writable" ∷ codes "nonzero" ∷ codes "no_over" ∷ codes "int_in" ∷ codes "aligned" ∷ codes "same_block" ∷ codes "heap_start" ∷ codes "terminated" ∷ codes "apart" ∷ codes "room_for" ∷ codes "never" ∷ []

abbrev pub kind_text : ℕ → List ℕ
kind_text kind = slice_index_or kind_names kind []

abbrev pub operator_name : Over → List ℕ
operator_name Add = codes "add"
operator_name Sub = codes "sub"
operator_name Mul = codes "mul"
operator_name Div = codes "div"
operator_name Rem = codes "rem"
operator_name Shl = codes "shl"
operator_name Neg = codes "neg"

-- 64-bit operators are `add64` and so on
abbrev pub width_text : ℕ → List ℕ
width_text bits = cond (bits == 64) (codes "64") []

-- an operator stands before the places
abbrev pub operator_text : Option Over → ℕ → List ℕ
operator_text None bits = []
operator_text (Some op) bits = operator_name op ++ width_text bits ++ codes ","

abbrev pub first_text : Names → Option Place → List ℕ
first_text names None = []
first_text names (Some p) = place_text names p

-- places are joined by commas
abbrev pub further_text : Names → ℤ → Option Place → List ℕ
further_text names k None = []
further_text names k (Some p) = codes "," ++ scaled_text names k p

abbrev pub why_text : Why → List ℕ
why_text Unread = codes "unread"
why_text End = codes "end"
why_text Extern = codes "extern"

-- what stands behind the places
abbrev pub rest_text : Names → Pred → List ℕ
rest_text names (RegSet v) = register_text names v.0
rest_text names (IntIn x lo hi) = codes "," ++ signed_decimal lo ++ codes "," ++ signed_decimal hi
rest_text names (Aligned p a) = codes "," ++ signed_decimal (pos a)
rest_text names (Never why) = why_text why
rest_text names _ = []

abbrev pub places_text : Names → View → List ℕ
places_text names v = first_text names v.first ++ further_text names v.factor v.second ++ further_text names v.factor v.third

-- a kind and in parentheses its operator, its places and its other numbers
abbrev pub predicate_text : Names → Pred → List ℕ
predicate_text names p =
    let v = view_of p in
    kind_text v.kind ++ codes "(" ++ operator_text v.operator v.width ++ places_text names v ++ rest_text names p ++ codes ")"
