-- One global more among the objects.
use Rattle.std.proofs.Common.{◌≡◌, ℕ, ◌+◌, List, [], ◌∷◌, ◌++◌, Bool, true, false, cond, length, get_or, take, drop, refl, ap, sym, ◌∙◌, subst, bytes_eq, arith, inl, inr}
use Rattle.std.specs.Prelude.{Option, Some, None, not, ◌&&◌, ◌||◌, position, filter, slice_get, option_map, unwrap_or}
use Rattle.std.specs.List.{list_any}
use Rattle.std.specs.Option.{option_or, is_some}
use Rattle.std.proofs.lemmas.List.{take_more, length_push, take-append-drop, append-nil, length-take-le}
use Rattle.std.proofs.lemmas.Option.{slice_get_within, get_or_from_slice_get, same_Some, none-some}
use Rattle.po_lists.proofs.Booleans.{bool_cases}
use Rattle.po_lists.proofs.Options.{option_cases}
use Rattle.po_ir.specs.declared.project.Global.{Global}
use Rattle.po_link.specs.declared.objects.Objects.{Objects}
use Rattle.po_ir.specs.General.{each_from}
use Rattle.po_symbols.specs.Names.{named}
use Rattle.po_link.specs.Joined.{is_shared, is_new, new_at, count_new, first_place, object_number, object_of, object_at, joined}
use Rattle.po_link.specs.Objects.{AreObjects, AddsLocal, AddsFirst, AddsKnown, number_at}
use Rattle.po_ir.proofs.General.{each_from-take}
use Rattle.po_symbols.proofs.Places.{position-push, position-front, any_place, same_bytes, bytes_same, and_right, mapped}

-- what holds of one item more of each list
added : {Y : Type 0} (f : ℕ → Global → List Y) (all : List Global) (place : ℕ) (g : Global) (ys before after : List Y) → slice_get all place ≡ Some g →
    f place g ≡ ys → before ≡ each_from f 0 (take place all) → after ≡ before ++ ys → after ≡ each_from f 0 (take (place + 1) all)
added f all place g ys before after at is so_far more =
    let here : get_or all place g ≡ g = get_or_from_slice_get all place g g at in
    more ∙ ap (λ z. z ++ ys) so_far ∙ ap (λ z. each_from f 0 (take place all) ++ z) (sym is ∙ ap (λ z. f place z) (sym here))
    ∙ sym (each_from-take f all place g (slice_get_within all place g at))

new_count : (all : List Global) (place : ℕ) (g : Global) (b : Bool) → slice_get all place ≡ Some g → is_new (take place all) g ≡ b → count_new all (place + 1) ≡ count_new all place + cond b 1 0
new_count all place g true at new =
    ap length (sym (added (new_at all) all place g (g ∷ []) (each_from (new_at all) 0 (take place all)) _ at (ap (λ b. cond b (g ∷ []) []) new) refl refl)) ∙ length_push _ g
new_count all place g false at new =
    let none : count_new all place + 0 ≡ count_new all place = omega arith in
    ap length (sym (added (new_at all) all place g [] (each_from (new_at all) 0 (take place all)) _ at (ap (λ b. cond b (g ∷ []) []) new) refl (sym (append-nil _)))) ∙ sym none

next_place : (all : List Global) (place : ℕ) (g : Global) (q : List ℕ) → slice_get all place ≡ Some g →
    position (is_shared q) (take (place + 1) all) ≡ option_or (position (is_shared q) (take place all)) (cond (is_shared q g) (Some place) None)
next_place all place g q at =
    let below = slice_get_within all place g at in
    let here : get_or all place g ≡ g = get_or_from_slice_get all place g g at in
    let long : length (take place all) ≡ place = length-take-le place all (omega arith) in
    ap (position (is_shared q)) (take_more all place g below ∙ ap (λ x. take place all ++ x ∷ []) here) ∙ position-push (is_shared q) (take place all) g
    ∙ ap (λ n. option_or (position (is_shared q) (take place all)) (cond (is_shared q g) (Some n) None)) long

or_none : (o : Option ℕ) → option_or o None ≡ o
or_none None = refl
or_none (Some n) = refl

pub local_more : (all : List Global) (place : ℕ) (before after : Objects) (g : Global) → slice_get all place ≡ Some g → g.local ≡ true →
    AddsLocal before after g → AreObjects all place before → AreObjects all (place + 1) after
local_more all place before after g at is_local a h =
    let number : object_number all place g ≡ length before.globals = ap (λ b. count_new all (cond b place (unwrap_or (position (is_shared g.name) all) place))) is_local ∙ sym h.length_is in
    let new : is_new (take place all) g ≡ true = rw is_local refl in
    record {
      numbers = added (number_at all) all place g (length before.globals ∷ []) before.numbers after.numbers at (ap (λ n. n ∷ []) number) h.numbers a.numbers;
      globals = added (object_at all) all place g (g ∷ []) before.globals after.globals at (ap (λ b. cond (b || not (list_any (is_shared g.name) (take place all))) (cond b g (joined g (filter (is_shared g.name) all)) ∷ []) []) is_local) h.globals a.globals;
      length_is = ap length a.globals ∙ length_push before.globals g ∙ ap (λ n. n + 1) h.length_is ∙ sym (new_count all place g true at new);
      names = λ q.
          let hidden : is_shared q g ≡ false = ap (λ b. not b && bytes_eq g.name q) is_local in
          a.names q ∙ h.names q ∙ ap (option_map (count_new all)) (sym (next_place all place g q at ∙ ap (λ b. option_or (position (is_shared q) (take place all)) (cond b (Some place) None)) hidden ∙ or_none _));
    }

-- the place at which the name stands among the first ones is its place among all
kept_place : (all : List Global) (place p : ℕ) (name : List ℕ) → position (is_shared name) (take place all) ≡ Some p → position (is_shared name) all ≡ Some p
kept_place all place p name h = subst (λ l. position (is_shared name) l ≡ Some p) (take-append-drop place all) (position-front (is_shared name) (take place all) (drop place all) p h)

-- a name that stands among the first ones gets no other place by one more
stays : (all : List Global) (place p : ℕ) (g : Global) (q : List ℕ) → position (is_shared g.name) (take place all) ≡ Some p →
    option_or (position (is_shared q) (take place all)) (cond (is_shared q g) (Some place) None) ≡ position (is_shared q) (take place all)
stays all place p g q there = elim (option_cases (position (is_shared q) (take place all))) [
  | inr s ↦ rw s.1 refl
  | inl none ↦ elim (bool_cases (is_shared q g)) [
    | inl t ↦
        let same : g.name ≡ q = bytes_same g.name q (and_right (not g.local) (bytes_eq g.name q) t) in
        absurd (none-some p (sym none ∙ subst (λ z. position (is_shared z) (take place all) ≡ Some p) same there))
    | inr f ↦ ap (λ b. option_or (position (is_shared q) (take place all)) (cond b (Some place) None)) f ∙ or_none _
  ]
]

pub known_more : (all : List Global) (place number : ℕ) (before after : Objects) (g : Global) → slice_get all place ≡ Some g → g.local ≡ false → named before.names g.name ≡ Some number →
    AddsKnown before after number → AreObjects all place before → AreObjects all (place + 1) after
known_more all place number before after g at is_open known a h = elim (option_cases (position (is_shared g.name) (take place all))) [
  | inl none ↦ absurd (none-some number (ap (option_map (count_new all)) (sym none) ∙ sym (h.names g.name) ∙ known))
  | inr there ↦
      let p = there.0 in
      let is : count_new all p ≡ number = same_Some _ _ (ap (option_map (count_new all)) (sym there.1) ∙ sym (h.names g.name) ∙ known) in
      let first : first_place all place g ≡ p = ap (λ b. cond b place (unwrap_or (position (is_shared g.name) all) place)) is_open ∙ ap (λ o. unwrap_or o place) (kept_place all place p g.name there.1) in
      let old : is_new (take place all) g ≡ false =
      ap (λ b. b || not (list_any (is_shared g.name) (take place all))) is_open ∙ ap not (any_place (is_shared g.name) (take place all) ∙ ap is_some there.1) in
      record {
        numbers = added (number_at all) all place g (number ∷ []) before.numbers after.numbers at (ap (λ n. n ∷ []) (ap (count_new all) first ∙ is)) h.numbers a.numbers;
        globals = added (object_at all) all place g [] before.globals after.globals at (ap (λ b. cond b (object_of all g ∷ []) []) old) h.globals (a.globals ∙ sym (append-nil _));
        length_is = let n = ap length a.globals ∙ h.length_is in let m = new_count all place g false at old in omega arith;
        names = λ q. a.names q ∙ h.names q ∙ ap (option_map (count_new all)) (sym (next_place all place g q at ∙ stays all place p g q there.1));
      }
]

pub first_more : (all : List Global) (place : ℕ) (before after : Objects) (g : Global) (same : List Global) → slice_get all place ≡ Some g → g.local ≡ false → named before.names g.name ≡ None →
    same ≡ filter (is_shared g.name) all → AddsFirst before after g (joined g same) → AreObjects all place before → AreObjects all (place + 1) after
first_more all place before after g same at is_open unknown all_same a h = elim (option_cases (position (is_shared g.name) (take place all))) [
  | inr there ↦ absurd (none-some (count_new all there.0) (sym unknown ∙ h.names g.name ∙ ap (option_map (count_new all)) there.1))
  | inl none ↦
      let itself : is_shared g.name g ≡ true = ap (λ b. not b && bytes_eq g.name g.name) is_open ∙ same_bytes g.name in
      let here : position (is_shared g.name) (take (place + 1) all) ≡ Some place =
      next_place all place g g.name at ∙ ap (λ o. option_or o (cond (is_shared g.name g) (Some place) None)) none ∙ ap (λ b. cond b (Some place) None) itself in
      let first : first_place all place g ≡ place = ap (λ b. cond b place (unwrap_or (position (is_shared g.name) all) place)) is_open ∙ ap (λ o. unwrap_or o place) (kept_place all (place + 1) place g.name here) in
      let new : is_new (take place all) g ≡ true =
      ap (λ b. b || not (list_any (is_shared g.name) (take place all))) is_open ∙ ap not (any_place (is_shared g.name) (take place all) ∙ ap is_some none) in
      let object : object_of all g ≡ joined g same = ap (λ b. cond b g (joined g (filter (is_shared g.name) all))) is_open ∙ ap (joined g) (sym all_same) in
      record {
        numbers = added (number_at all) all place g (length before.globals ∷ []) before.numbers after.numbers at (ap (λ n. n ∷ []) (ap (count_new all) first ∙ sym h.length_is)) h.numbers a.numbers;
        globals = added (object_at all) all place g (joined g same ∷ []) before.globals after.globals at (ap (λ b. cond b (object_of all g ∷ []) []) new ∙ ap (λ o. o ∷ []) object) h.globals a.globals;
        length_is = ap length a.globals ∙ length_push before.globals (joined g same) ∙ ap (λ n. n + 1) h.length_is ∙ sym (new_count all place g true at new);
        names = λ q.
            let shows : is_shared q g ≡ bytes_eq g.name q = ap (λ b. not b && bytes_eq g.name q) is_open in
            a.names q ∙ ap (λ o. option_or o (cond (bytes_eq g.name q) (Some (length before.globals)) None)) (h.names q)
            ∙ ap (λ n. option_or (option_map (count_new all) (position (is_shared q) (take place all))) (cond (bytes_eq g.name q) (Some n) None)) h.length_is
            ∙ ap (λ b. option_or (option_map (count_new all) (position (is_shared q) (take place all))) (cond b (Some (count_new all place)) None)) (sym shows)
            ∙ sym (ap (option_map (count_new all)) (next_place all place g q at) ∙ mapped (count_new all) (position (is_shared q) (take place all)) (is_shared q g) place);
      }
]
