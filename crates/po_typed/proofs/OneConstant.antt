-- A constant has one value at most, and an operator makes one number at most of two.
use Rattle.std.proofs.Common.{◌≡◌, ◌^◌, ℕ, false, List, [], ◌∷◌, ◌++◌, Some, None, refl, sym, ap, ◌∙◌, subst, arith}
use Rattle.std.specs.Prelude.{ℤ, pos, ◌-◌, ◌≤ℤ◌}
use Rattle.std.proofs.lemmas.Int.{ints}
use Rattle.std.proofs.lemmas.Nat.{pow_pos}
use Rattle.po_arith.specs.declared.int_type.IntType.{IntType}
use Rattle.po_arith.specs.declared.target.Target.{Target}
use Rattle.po_arith.specs.Types.{IsWrapped}
use Rattle.po_arith.proofs.Products.{same_rest}
use Rattle.po_arith.proofs.Divided.{one_division}
use Rattle.po_arith.proofs.Shifted.{one_shifted}
use Rattle.po_arith.proofs.BitByBit.{telling}
use Rattle.po_base.specs.declared.operators.Op.{Op}
use Rattle.po_tree.specs.Literals.{Characters, end_quote, next_character, first_character}
use Rattle.po_types.specs.Integers.{constant_type, unsigned_type}
use Rattle.po_typed.specs.Constants.{IsNumber, IsCharacterOf, AreStrings, no_more_strings, one_more_string, as_signed_char, is_decimal, has_u, count_l, Becomes, zero_bool, other_bool, wrapped, fitting, Kept, kept_unsigned, kept_signed, Computes, added, subtracted, multiplied, divided, remainder, conjoined, disjoined, differing, Shifts, to_the_left, to_the_right, Compares, it_holds, it_fails}
use Rattle.po_lists.proofs.Options.{one_some}
use Rattle.po_lists.proofs.Booleans.{never_both}

no_some : {A : Type 0} {x : A} → None ≡ Some x → ⊥
no_some e = absurd cc

-- integer constants
pub number_is_one : {target : Target} {text : List ℕ} {s t : IntType} {m n : ℕ} → IsNumber target text s m → IsNumber target text t n → (s ≡ t) × (m ≡ n)
number_is_one {target = target} {text = text} {s = s} {t = t} {m = m} {n = n} a b =
    let value : m ≡ n = sym a.valued ∙ b.valued in
    let suffix : a.suffix ≡ b.suffix = one_some a.behind b.behind in
    let first : constant_type target (has_u b.suffix) (is_decimal text) (count_l b.suffix) n ≡ Some s =
    subst (λ x. constant_type target (has_u x) (is_decimal text) (count_l x) n ≡ Some s) suffix
    (subst (λ x. constant_type target (has_u a.suffix) (is_decimal text) (count_l a.suffix) x ≡ Some s) value a.typed) in
    (one_some first b.typed, value)

-- characters before a quote that no escape begins with
module _ (quote : ℕ) (ends : first_character quote (quote ∷ []) ≡ None) where
  pub characters_are_one : {vs ws text other : List ℕ} → Characters quote vs text → Characters quote ws other → text ≡ other → vs ≡ ws
  characters_are_one end_quote end_quote e = refl
  characters_are_one end_quote (next_character value values cs rest f g) e = absurd (no_some (sym ends ∙ ap (first_character quote) e ∙ f))
  characters_are_one (next_character value values cs rest f g) end_quote e = absurd (no_some (sym ends ∙ ap (first_character quote) (sym e) ∙ f))
  characters_are_one (next_character value values cs rest f g) (next_character value' values' cs' rest' h k) e =
      let both = one_some f (ap (first_character quote) e ∙ h) in
      let first : value ≡ value' = ap (λ z. z.0) both in
      let others = characters_are_one g k (ap (λ z. z.1) both) in
      ap (λ z. z ∷ values) first ∙ ap (λ z. value' ∷ z) others

pub character_is_one : {text : List ℕ} {v w : ℤ} → IsCharacterOf text v → IsCharacterOf text w → v ≡ w
character_is_one a b =
    let quoted = sym a.quoted ∙ b.quoted in
    let same : a.rest ≡ b.rest = cc in
    let one = characters_are_one 39 refl a.single b.single same in
    let character : a.character ≡ b.character = cc in
    a.signed ∙ ap as_signed_char character ∙ sym b.signed

strings_at : {texts others : List (List ℕ)} {vs ws : List ℕ} → AreStrings texts vs → AreStrings others ws → texts ≡ others → vs ≡ ws
strings_at no_more_strings no_more_strings e = refl
strings_at no_more_strings (one_more_string rest vs ws texts f g) e = absurd cc
strings_at (one_more_string rest vs ws texts f g) no_more_strings e = absurd cc
strings_at (one_more_string rest vs ws texts f g) (one_more_string rest' vs' ws' texts' h k) e =
    let behind : rest ≡ rest' = cc in
    let others : texts ≡ texts' = cc in
    let first = characters_are_one 34 refl f h behind in
    let second = strings_at g k others in
    ap (λ z. z ++ ws) first ∙ ap (λ z. vs' ++ z) second

pub strings_are_one : {texts : List (List ℕ)} {vs ws : List ℕ} → AreStrings texts vs → AreStrings texts ws → vs ≡ ws
strings_are_one f g = strings_at f g refl

-- numbers of an unsigned type that are congruent to one number
one_residue : (bits : ℕ) (v w u : ℤ) → IsWrapped (unsigned_type bits) v w → IsWrapped (unsigned_type bits) v u → w ≡ u
one_residue bits v w u (w_in, (k, w_is)) (u_in, (j, u_is)) =
    let some = pow_pos bits in
    let w_low : pos 0 ≤ℤ w = w_in.0 in
    let u_low : pos 0 ≤ℤ u = u_in.0 in
    let w_high : w ≤ℤ pos (2 ^ bits - 1) = w_in.1 in
    let u_high : u ≤ℤ pos (2 ^ bits - 1) = u_in.1 in
    (same_rest (2 ^ bits) k j w u (omega (arith, ints)) (omega (arith, ints)) (omega (arith, ints))).1

pub wrapped_is_one : (t : IntType) (v w u : ℤ) → t.signed ≡ false → IsWrapped t v w → IsWrapped t v u → w ≡ u
wrapped_is_one t v w u s f g =
    let as_unsigned : t ≡ unsigned_type t.bits = λ i. record { bits = t.bits; signed = s i } in
    one_residue t.bits v w u (subst (λ z. IsWrapped z v w) as_unsigned f) (subst (λ z. IsWrapped z v u) as_unsigned g)

-- conversions, and results in a type
becomes_at : {s t : IntType} {v x w u : ℤ} → Becomes s v w → Becomes t x u → s ≡ t → v ≡ x → w ≡ u
becomes_at zero_bool zero_bool e f = refl
becomes_at zero_bool (other_bool v not) e f = absurd (not (sym f))
becomes_at zero_bool (wrapped t v w not s m) e f = absurd (not (sym e))
becomes_at zero_bool (fitting t v s m) e f = never_both (ap (λ z. z.signed) e ∙ s) refl
becomes_at (other_bool v not) zero_bool e f = absurd (not f)
becomes_at (other_bool v not) (other_bool x not') e f = refl
becomes_at (other_bool v not) (wrapped t x w not' s m) e f = absurd (not' (sym e))
becomes_at (other_bool v not) (fitting t x s m) e f = never_both (ap (λ z. z.signed) e ∙ s) refl
becomes_at (wrapped t v w not s m) zero_bool e f = absurd (not e)
becomes_at (wrapped t v w not s m) (other_bool x not') e f = absurd (not e)
becomes_at (wrapped t v w not s m) (wrapped t' x u not' s' n) e f = wrapped_is_one t v w u s m (subst (λ z. IsWrapped z v u) (sym e) (subst (λ z. IsWrapped t' z u) (sym f) n))
becomes_at (wrapped t v w not s m) (fitting t' x s' n) e f = never_both (ap (λ z. z.signed) e ∙ s') s
becomes_at (fitting t v s m) zero_bool e f = never_both s (ap (λ z. z.signed) e)
becomes_at (fitting t v s m) (other_bool x not) e f = never_both s (ap (λ z. z.signed) e)
becomes_at (fitting t v s m) (wrapped t' x u not s' n) e f = never_both s (ap (λ z. z.signed) e ∙ s')
becomes_at (fitting t v s m) (fitting t' x s' n) e f = f

pub becomes_one : {t : IntType} {v w u : ℤ} → Becomes t v w → Becomes t v u → w ≡ u
becomes_one f g = becomes_at f g refl refl

kept_at : {t : IntType} {v x w u : ℤ} → Kept t v w → Kept t x u → v ≡ x → w ≡ u
kept_at {t = t} (kept_unsigned v w s m) (kept_unsigned x u s' n) e = wrapped_is_one t v w u s m (subst (λ z. IsWrapped t z u) (sym e) n)
kept_at (kept_unsigned v w s m) (kept_signed x s' n) e = never_both s' s
kept_at (kept_signed v s m) (kept_unsigned x u s' n) e = never_both s s'
kept_at (kept_signed v s m) (kept_signed x s' n) e = e

pub kept_one : {t : IntType} {v w u : ℤ} → Kept t v w → Kept t v u → w ≡ u
kept_one f g = kept_at f g refl

-- operators
pub computes_one : {o : Op} {t : IntType} {v w r s : ℤ} → Computes o t v w r → Computes o t v w s → r ≡ s
computes_one (added t v w r f) (added _ _ _ s g) = kept_one f g
computes_one (subtracted t v w r f) (subtracted _ _ _ s g) = kept_one f g
computes_one (multiplied t v w r f) (multiplied _ _ _ s g) = kept_one f g
computes_one (divided t v w q rest r not d f) (divided _ _ _ p left s _ e g) = kept_at f g (one_division v w q rest p left d e).0
computes_one (remainder t v w q rest r x not d f h) (remainder _ _ _ p left s y _ e g k) = kept_at h k (one_division v w q rest p left d e).1
computes_one (conjoined t v w r f) (conjoined _ _ _ s g) = telling r s (λ i. f i ∙ sym (g i))
computes_one (disjoined t v w r f) (disjoined _ _ _ s g) = telling r s (λ i. f i ∙ sym (g i))
computes_one (differing t v w r f) (differing _ _ _ s g) = telling r s (λ i. f i ∙ sym (g i))

pub shifts_one : {o : Op} {t : IntType} {v r s : ℤ} {n : ℕ} → Shifts o t v n r → Shifts o t v n s → r ≡ s
shifts_one (to_the_left t v r n few f) (to_the_left _ _ s _ _ g) = kept_one f g
shifts_one (to_the_right t v r n few f) (to_the_right _ _ s _ _ g) = one_shifted v r s n f g

pub compares_one : {o : Op} {v w r s : ℤ} → Compares o v w r → Compares o v w s → r ≡ s
compares_one (it_holds f) (it_holds g) = refl
compares_one (it_holds f) (it_fails g) = absurd (g f)
compares_one (it_fails f) (it_holds g) = absurd (f g)
compares_one (it_fails f) (it_fails g) = refl
