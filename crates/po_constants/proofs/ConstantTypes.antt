-- The types of integer constants, one width after the other.
use Rattle.std.proofs.Common.{◌≡◌, ◌≢◌, ℕ, zero, suc, ◌+◌, ◌-◌, ◌*◌, ◌^◌, ◌<◌, ◌≤◌, List, [], ◌∷◌, ◌++◌, length, get_or, take, drop, min, Bool, true, false, cond, arith, refl, sym, ap, ◌∙◌, subst, inl, inr}
use Rattle.std.specs.Prelude.{Some, None, flat_map, nat_lt, pos}
use Rattle.std.specs.List.{AllByRecursion}
use Rattle.std.proofs.lemmas.Int.{ints}
use Rattle.std.proofs.lemmas.List.{drop_more, drop_all, drop_min, take_rest}
use Rattle.std.proofs.lemmas.Bool.Decides.{nat_tests, Decides-ltb}
use Rattle.po_arith.specs.declared.int_type.IntType.{IntType}
use Rattle.po_arith.specs.declared.target.Target.{Target}
use Rattle.po_arith.specs.declared.target.Target.TheVariants as t
use Rattle.po_arith.specs.Types.{IsIntType, IsWidth, IsOfType}
use Rattle.po_types.specs.Integers.{holds, first_to_hold, of_width, constant_widths, constant_types, constant_type, word_bytes}
use Rattle.po_typed.specs.Constants.{IsNumber, integer_value, is_decimal, has_u, count_l}

module _ (value : ℕ) where
  first_there : (ts us : List IntType) (t : IntType) → first_to_hold value ts ≡ Some t → first_to_hold value (ts ++ us) ≡ Some t
  first_there [] us t q = absurd cc
  first_there (s ∷ ts) us t q =
      elim (holds s value) as (λ b. cond b (Some s) (first_to_hold value ts) ≡ Some t → cond b (Some s) (first_to_hold value (ts ++ us)) ≡ Some t) [
        | true ↦ (λ h. h)
        | false ↦ (λ h. first_there ts us t h)
      ] q

  first_behind : (ts us : List IntType) → first_to_hold value ts ≡ None → first_to_hold value (ts ++ us) ≡ first_to_hold value us
  first_behind [] us q = refl
  first_behind (s ∷ ts) us q =
      elim (holds s value) as (λ b. cond b (Some s) (first_to_hold value ts) ≡ None → cond b (Some s) (first_to_hold value (ts ++ us)) ≡ first_to_hold value us) [
        | true ↦ (λ h. absurd cc)
        | false ↦ (λ h. first_behind ts us h)
      ] q

  module _ (types : ℕ → List IntType) (widths : List ℕ) (i d : ℕ) where
    front : i < length widths → flat_map types (drop i widths) ≡ types (get_or widths i d) ++ flat_map types (drop (i + 1) widths)
    front in' = ap (flat_map types) (drop_more widths i d in')

    -- a type of this width holds the value
    pub held : (t : IntType) → i < length widths → first_to_hold value (types (get_or widths i d)) ≡ Some t → first_to_hold value (flat_map types (drop i widths)) ≡ Some t
    held t in' q = ap (first_to_hold value) (front in') ∙ first_there (types (get_or widths i d)) (flat_map types (drop (i + 1) widths)) t q

    -- none does
    pub passed : i < length widths → first_to_hold value (types (get_or widths i d)) ≡ None → first_to_hold value (flat_map types (drop (i + 1) widths)) ≡ first_to_hold value (flat_map types (drop i widths))
    passed in' q = sym (ap (first_to_hold value) (front in') ∙ first_behind (types (get_or widths i d)) (flat_map types (drop (i + 1) widths)) q)

    -- no width is left
    pub none_left : length widths ≤ i → first_to_hold value (flat_map types (drop i widths)) ≡ None
    none_left past = ap (λ ws. first_to_hold value (flat_map types ws)) (drop_all i widths past)

pub widths_are : (target : Target) (longs m bytes : ℕ) → m ≡ min longs 3 → bytes ≡ word_bytes target →
    take (3 - m) (drop m (32 ∷ (8 * bytes ∷ (64 ∷ [])))) ≡ constant_widths target longs
widths_are target longs m bytes p q =
    take_rest (32 ∷ (8 * bytes ∷ (64 ∷ []))) m
    ∙ ap (λ n. drop n (32 ∷ (8 * bytes ∷ (64 ∷ [])))) p
    ∙ drop_min longs (32 ∷ (8 * bytes ∷ (64 ∷ [])))
    ∙ ap (λ b. drop longs (32 ∷ (8 * b ∷ (64 ∷ [])))) q

-- a value of more than 64 bits
test : (n k : ℕ) → k ≤ n → nat_lt n k ≡ false
test n k h = grind (arith, nat_tests)

too_great : (n : ℕ) (unsigned decimal : Bool) (longs : ℕ) → 2 ^ 64 ≤ n → first_to_hold n (constant_types t.L64 unsigned decimal longs) ≡ None
too_great n unsigned decimal longs great =
    let a = test n (2 ^ 31) (omega arith) in
    let b = test n (2 ^ 32) (omega arith) in
    let c = test n (2 ^ 63) (omega arith) in
    let d = test n (2 ^ 64) great in
    by unsigned decimal longs a b c d
  where
    nothing : (unsigned decimal : Bool) (k : ℕ) → first_to_hold n (flat_map (of_width unsigned decimal) (drop k [])) ≡ None
    nothing unsigned decimal k = ap (λ ws. first_to_hold n (flat_map (of_width unsigned decimal) ws)) (drop_all k [] (omega arith))

    by : (unsigned decimal : Bool) (longs : ℕ) → nat_lt n (2 ^ 31) ≡ false → nat_lt n (2 ^ 32) ≡ false → nat_lt n (2 ^ 63) ≡ false → nat_lt n (2 ^ 64) ≡ false →
        first_to_hold n (constant_types t.L64 unsigned decimal longs) ≡ None
    by true decimal zero a b c d = rw (b, d) refl
    by true decimal (suc zero) a b c d = rw d refl
    by true decimal (suc (suc zero)) a b c d = rw d refl
    by true decimal (suc (suc (suc k))) a b c d = nothing true decimal k
    by false true zero a b c d = rw (a, c) refl
    by false true (suc zero) a b c d = rw c refl
    by false true (suc (suc zero)) a b c d = rw c refl
    by false true (suc (suc (suc k))) a b c d = nothing false true k
    by false false zero a b c d = rw (a, b, c, d) refl
    by false false (suc zero) a b c d = rw (c, d) refl
    by false false (suc (suc zero)) a b c d = rw (c, d) refl
    by false false (suc (suc (suc k))) a b c d = nothing false false k

pub no_type : (target : Target) (n : ℕ) (unsigned decimal : Bool) (longs : ℕ) → 2 ^ 64 ≤ n → constant_type target unsigned decimal longs n ≡ None
no_type t.L64 n unsigned decimal longs great = too_great n unsigned decimal longs great

pub no_number : (target : Target) (text : List ℕ) → 2 ^ 64 ≤ integer_value text → (p : IntType × ℕ) → IsNumber target text p.0 p.1 → ⊥
no_number target text great (s, n) h =
    let same : integer_value text ≡ n = h.valued in
    let none = no_type target n (has_u h.suffix) (is_decimal text) (count_l h.suffix) (omega arith) in
    absurd (cc (none, h.typed))

-- the type that is chosen is one of the target, and holds the value
chosen_from : (n : ℕ) (ts : List IntType) (s : IntType) → AllByRecursion IsIntType ts → first_to_hold n ts ≡ Some s → IsIntType s × (holds s n ≡ true)
chosen_from n [] s all q = absurd cc
chosen_from n (u ∷ ts) s all q =
    elim (holds u n) as (λ b. holds u n ≡ b → cond b (Some u) (first_to_hold n ts) ≡ Some s → IsIntType s × (holds s n ≡ true)) [
      | true ↦ (λ h k. let same : u ≡ s = cc in (subst IsIntType same all.0, ap (λ z. holds z n) (sym same) ∙ h))
      | false ↦ (λ h k. chosen_from n ts s all.1 k)
    ] refl q

joined : (xs ys : List IntType) → AllByRecursion IsIntType xs → AllByRecursion IsIntType ys → AllByRecursion IsIntType (xs ++ ys)
joined [] ys f g = g
joined (x ∷ xs) ys f g = (f.0, joined xs ys f.1 g)

of_target : (bits : ℕ) (signed : Bool) → IsWidth bits → bits ≢ 1 → IsIntType (record { bits = bits; signed = signed })
of_target bits signed width other = record { width = width; bool_unsigned = λ q. absurd (other q) }

width_types : (unsigned decimal : Bool) (bits : ℕ) → IsWidth bits → bits ≢ 1 → AllByRecursion IsIntType (of_width unsigned decimal bits)
width_types true decimal bits width other = (of_target bits false width other, tt)
width_types false true bits width other = (of_target bits true width other, tt)
width_types false false bits width other = (of_target bits true width other, (of_target bits false width other, tt))

abbrev IsWide : ℕ → Type 0
IsWide bits = IsWidth bits × (bits ≢ 1)

at_widths : (unsigned decimal : Bool) (widths : List ℕ) → AllByRecursion IsWide widths → AllByRecursion IsIntType (flat_map (of_width unsigned decimal) widths)
at_widths unsigned decimal [] all = tt
at_widths unsigned decimal (bits ∷ widths) all =
    joined (of_width unsigned decimal bits) (flat_map (of_width unsigned decimal) widths) (width_types unsigned decimal bits all.0.0 all.0.1) (at_widths unsigned decimal widths all.1)

rest_of : (P : ℕ → Type 0) (n : ℕ) (xs : List ℕ) → AllByRecursion P xs → AllByRecursion P (drop n xs)
rest_of P zero xs all = all
rest_of P (suc n) [] all = subst (AllByRecursion P) (sym (drop_all (suc n) [] (omega arith))) tt
rest_of P (suc n) (x ∷ xs) all = rest_of P n xs all.1

thirty_two : IsWide 32
thirty_two = (inr (inr (inr (inl refl))), λ q. absurd (omega arith))

sixty_four : IsWide 64
sixty_four = (inr (inr (inr (inr refl))), λ q. absurd (omega arith))

types_of_target : (target : Target) (unsigned decimal : Bool) (longs : ℕ) → AllByRecursion IsIntType (constant_types target unsigned decimal longs)
types_of_target t.L64 unsigned decimal longs =
    at_widths unsigned decimal (constant_widths t.L64 longs)
    (rest_of IsWide longs (32 ∷ (64 ∷ (64 ∷ []))) (thirty_two, (sixty_four, (sixty_four, tt))))

is_of : (bits n : ℕ) (signed : Bool) → nat_lt n (cond signed (2 ^ (bits - 1)) (2 ^ bits)) ≡ true → IsOfType (record { bits = bits; signed = signed }) (pos n)
is_of bits n true h = let less : n < 2 ^ (bits - 1) = (Decides-ltb n (2 ^ (bits - 1))).0 h in (omega (arith, ints), omega (arith, ints))
is_of bits n false h = let less : n < 2 ^ bits = (Decides-ltb n (2 ^ bits)).0 h in (omega (arith, ints), omega (arith, ints))

pub chosen : (target : Target) (unsigned decimal : Bool) (longs n : ℕ) (s : IntType) → constant_type target unsigned decimal longs n ≡ Some s → IsIntType s × IsOfType s (pos n)
chosen target unsigned decimal longs n s q =
    let c = chosen_from n (constant_types target unsigned decimal longs) s (types_of_target target unsigned decimal longs) q in
    (c.0, is_of s.bits n s.signed c.1)
