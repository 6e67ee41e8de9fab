-- One file more among the parts of a project.
use Rattle.std.proofs.Common.{◌≡◌, ℕ, zero, suc, ◌+◌, ◌<◌, ◌≤◌, List, [], ◌∷◌, ◌++◌, length, map, get_or, take, drop, refl, ap, sym, ◌∙◌, subst, append-nil, cond, inl, inr, arith}
use Rattle.std.specs.Prelude.{Option, Some, None, position, find, flat_map, slice_get, option_map, option_and_then, unwrap_or, nat_lt}
use Rattle.std.specs.Option.{option_or, option_map_or}
use Rattle.std.specs.Ordering.{nat_cmp}
use Rattle.std.specs.BTreeMap.{get}
use Rattle.std.proofs.lemmas.Bool.{ltb-true, ltb-false}
use Rattle.std.proofs.lemmas.List.{map-append, take_more, length-take-le, length-append, length-map, drop-drop}
use Rattle.std.proofs.lemmas.List.Concat.{flat_map-append}
use Rattle.std.proofs.lemmas.Option.{slice_get_within, get_or_from_slice_get, slice_get_past}
use Rattle.po_lists.proofs.Booleans.{bool_cases}
use Rattle.po_lists.proofs.Places.{first_at, second_at, taken_at, dropped_at}
use Rattle.po_ir.specs.declared.unit.LibUse.{LibUse}
use Rattle.po_ir.specs.declared.unit.Unit.{Unit as FileUnit}
use Rattle.po_ir.specs.declared.project.Global.{Global}
use Rattle.po_link.specs.declared.join.Parts.{Parts}
use Rattle.po_link.specs.declared.scope.Scope.{Scope}
use Rattle.po_link.specs.declared.seen.Seen.{Seen}
use Rattle.po_ir.specs.General.{each_from}
use Rattle.po_symbols.specs.Names.{named}
use Rattle.po_link.specs.Joined.{file_name, functions_of, globals_of, texts_of, opaque_of, opaque_in, is_named, is_declared, is_lib, seen_function, naming_of, object_number, global_of, joined_functions}
use Rattle.po_link.specs.Noted.{AreSeen}
use Rattle.po_link.specs.Objects.{number_at}
use Rattle.po_link.specs.Parted.{AreParts}
use Rattle.po_link.specs.Scoped.{flat, seen_by, scoped_function, scoped_lib, IsScope}
use Rattle.po_ir.proofs.General.{each_from-take}
use Rattle.po_symbols.proofs.Places.{flat_map-more}

pub parts_more : (units : List FileUnit) (file : ℕ) (u : FileUnit) (before after : Parts) → slice_get units file ≡ Some u →
    after.files ≡ before.files ++ u.name ∷ [] → after.opaque ≡ before.opaque ++ flat_map opaque_of u.pieces → after.functions ≡ before.functions ++ joined_functions units file u →
    after.texts ≡ before.texts ++ u.texts → AreParts units file before → AreParts units (file + 1) after
parts_more units file u before after at files opaque functions texts h =
    let below = slice_get_within units file u at in
    let here : get_or units file u ≡ u = get_or_from_slice_get units file u u at in
    record {
      files = files ∙ ap (λ z. z ++ u.name ∷ []) h.files ∙ sym (ap (map file_name) (take_more units file u below ∙ ap (λ x. take file units ++ x ∷ []) here) ∙ map-append file_name (take file units) (u ∷ []));
      opaque = opaque ∙ ap (λ z. z ++ opaque_in u) h.opaque ∙ sym (flat_map-more opaque_in units file u below ∙ ap (λ x. flat_map opaque_in (take file units) ++ opaque_in x) here);
      functions = functions ∙ ap (λ z. z ++ joined_functions units file u) h.functions
          ∙ sym (each_from-take (joined_functions units) units file u below ∙ ap (λ x. each_from (joined_functions units) 0 (take file units) ++ joined_functions units file x) here);
      texts = texts ∙ ap (λ z. z ++ texts_of u) h.texts ∙ sym (flat_map-more texts_of units file u below ∙ ap (λ x. flat_map texts_of (take file units) ++ texts_of x) here);
    }

joined_count : (units : List FileUnit) (n : ℕ) (xs : List FileUnit) → length (each_from (joined_functions units) n xs) ≡ length (flat_map functions_of xs)
joined_count units n [] = refl
joined_count units n (x ∷ xs) =
    length-append (joined_functions units n x) (each_from (joined_functions units) (n + 1) xs) ∙ ap (λ k. k + length (each_from (joined_functions units) (n + 1) xs)) (length-map (functions_of x) _)
    ∙ ap (λ k. length (functions_of x) + k) (joined_count units (n + 1) xs) ∙ sym (length-append (functions_of x) (flat_map functions_of xs))

pub functions_before : (units : List FileUnit) (file : ℕ) (p : Parts) → AreParts units file p → length p.functions ≡ length (flat_map functions_of (take file units))
functions_before units file p h = ap length h.functions ∙ joined_count units 0 (take file units)

pub files_before : (units : List FileUnit) (file : ℕ) (u : FileUnit) (p : Parts) → slice_get units file ≡ Some u → AreParts units file p → length p.files ≡ file
files_before units file u p at h = let below = slice_get_within units file u at in ap length h.files ∙ length-map (take file units) file_name ∙ length-take-le file units (omega arith)

same_then : {X Y : Type 0} (f g : X → Option Y) → ((x : X) → f x ≡ g x) → (o : Option X) → option_and_then f o ≡ option_and_then g o
same_then f g same None = refl
same_then f g same (Some x) = same x

pub scope_is : (units : List FileUnit) (file : ℕ) (u : FileUnit) (seen : Seen) (scope : Scope) (first texts : ℕ) (globals : List ℕ) →
    AreSeen seen (flat_map functions_of units) → first ≡ length (flat_map functions_of (take file units)) → texts ≡ length (flat_map texts_of (take file units)) →
    ((q : List ℕ) → named scope.functions q ≡ scoped_function seen first u q) → ((lib : ℕ) → flat (get nat_cmp scope.libs lib) ≡ scoped_lib seen u lib) →
    scope.globals.now ≡ globals → scope.texts ≡ texts → ((place : ℕ) → unwrap_or (slice_get globals place) place ≡ global_of units file u place) → IsScope scope (naming_of units file u)
scope_is units file u seen scope first texts globals all first_is texts_is functions libs globals_are texts_are numbers = record {
  functions = λ q.
      functions q ∙ ap (λ f. option_or (option_map (λ p. f + p) (position (is_named q) u.functions)) (cond (is_declared q u) (named seen.numbers q) None)) first_is
      ∙ ap (λ o. option_or (option_map (λ p. length (flat_map functions_of (take file units)) + p) (position (is_named q) u.functions)) (cond (is_declared q u) o None)) (all.numbers q);
  libs = λ lib. libs lib ∙ same_then (seen_by seen) (λ (used : LibUse). seen_function units used.name) (λ used. all.numbers used.name) (find (is_lib lib) u.libs);
  globals = λ place. ap (λ l. unwrap_or (slice_get l place) place) globals_are ∙ numbers place;
  texts = λ place. ap (λ t. t + place) (texts_are ∙ texts_is);
}

-- ---- the numbers of a file's globals among those of all

each_count : (all : List Global) (n : ℕ) (xs : List Global) → length (each_from (number_at all) n xs) ≡ length xs
each_count all n [] = refl
each_count all n (x ∷ xs) = ap suc (each_count all (n + 1) xs)

at_each : (all : List Global) (n : ℕ) (xs : List Global) (i : ℕ) → slice_get (each_from (number_at all) n xs) i ≡ option_map (object_number all (n + i)) (slice_get xs i)
at_each all n [] i = refl
at_each all n (x ∷ xs) zero = let e : n ≡ n + 0 = omega arith in ap (λ k. Some (object_number all k x)) e
at_each all n (x ∷ xs) (suc i) = let e : (n + 1) + i ≡ n + suc i = omega arith in at_each all (n + 1) xs i ∙ ap (λ k. option_map (object_number all k) (slice_get xs i)) e

past_at : {X : Type 0} (n : ℕ) (xs : List X) (i : ℕ) → n ≤ i → slice_get (take n xs) i ≡ None
past_at zero xs i h = refl
past_at (suc n) [] i h = refl
past_at (suc n) (x ∷ xs) zero h = absurd (omega arith)
past_at (suc n) (x ∷ xs) (suc i) h = past_at n xs i (omega arith)

mapped_or : {X : Type 0} (f : X → ℕ) (o : Option X) (d : ℕ) → unwrap_or (option_map f o) d ≡ option_map_or f o d
mapped_or f None d = refl
mapped_or f (Some x) d = refl

-- what is dropped from a list, or left, has its length
dropped_long : {X : Type 0} (n m : ℕ) (xs : List X) → n + m ≤ length xs → m ≤ length (drop n xs)
dropped_long zero m xs h = omega arith
dropped_long (suc n) m [] h = absurd (omega arith)
dropped_long (suc n) m (x ∷ xs) h = dropped_long n m xs (omega arith)

module _ (units yielded rest : List FileUnit) (u : FileUnit) (numbers left : List ℕ)
    (order : yielded ++ (u ∷ rest) ≡ units)
    (numbered : numbers ≡ each_from (number_at (flat_map globals_of units)) 0 (flat_map globals_of units))
    (behind : left ≡ drop (length (flat_map globals_of yielded)) numbers) where
  all_globals : flat_map globals_of units ≡ flat_map globals_of yielded ++ (u.globals ++ flat_map globals_of rest)
  all_globals = ap (flat_map globals_of) (sym order) ∙ flat_map-append globals_of yielded (u ∷ rest)

  pub room : length u.globals ≤ length left
  room =
      let long : length numbers ≡ length (flat_map globals_of units) = ap length numbered ∙ each_count (flat_map globals_of units) 0 (flat_map globals_of units) in
      let parts : length (flat_map globals_of units) ≡ length (flat_map globals_of yielded) + (length u.globals + length (flat_map globals_of rest)) =
      ap length all_globals ∙ length-append (flat_map globals_of yielded) _ ∙ ap (λ n. length (flat_map globals_of yielded) + n) (length-append u.globals _) in
      subst (λ l. length u.globals ≤ length l) (sym behind) (dropped_long (length (flat_map globals_of yielded)) (length u.globals) numbers (omega arith))

  before : take (length yielded) units ≡ yielded
  before = ap (take (length yielded)) (sym order) ∙ take_front yielded (u ∷ rest)
    where
      take_front : {X : Type 0} (xs ys : List X) → take (length xs) (xs ++ ys) ≡ xs
      take_front [] ys = refl
      take_front (x ∷ xs) ys = ap (λ l. x ∷ l) (take_front xs ys)

  pub place_is : slice_get units (length yielded) ≡ Some u
  place_is =
      let e : length yielded + 0 ≡ length yielded = omega arith in
      ap (λ l. slice_get l (length yielded)) (sym order) ∙ ap (slice_get (yielded ++ (u ∷ rest))) (sym e) ∙ second_at yielded (u ∷ rest) (length yielded) 0 refl

  pub numbers_are : (front : List ℕ) (n : ℕ) → n ≡ length u.globals → front ≡ take n left → (place : ℕ) → unwrap_or (slice_get front place) place ≡ global_of units (length yielded) u place
  numbers_are front n count cut place =
      let front_is : front ≡ take (length u.globals) (drop (length (flat_map globals_of yielded)) numbers) = cut ∙ ap (λ k. take k left) count ∙ ap (take (length u.globals)) behind in
      let all = flat_map globals_of units in
      let offset = length (flat_map globals_of yielded) in
      let at : option_map_or (object_number all (offset + place)) (slice_get u.globals place) place ≡ global_of units (length yielded) u place =
      ap (λ l. option_map_or (object_number all (length (flat_map globals_of l) + place)) (slice_get u.globals place) place) (sym before) in
      elim (bool_cases (nat_lt place (length u.globals))) [
        | inl inside ↦
            let below : place < length u.globals = ltb-true _ _ inside in
            let none : 0 + (offset + place) ≡ offset + place = omega arith in
            ap (λ l. unwrap_or (slice_get l place) place) front_is
            ∙ ap (λ o. unwrap_or o place) (taken_at (length u.globals) _ place below ∙ dropped_at offset numbers place ∙ ap (λ l. slice_get l (offset + place)) numbered
            ∙ at_each all 0 all (offset + place) ∙ ap (λ k. option_map (object_number all k) (slice_get all (offset + place))) none
            ∙ ap (option_map (object_number all (offset + place))) (ap (λ l. slice_get l (offset + place)) all_globals ∙ second_at (flat_map globals_of yielded) _ _ place refl ∙ first_at u.globals _ place below))
            ∙ mapped_or (object_number all (offset + place)) (slice_get u.globals place) place ∙ at
        | inr outside ↦
            let past : length u.globals ≤ place = ltb-false _ _ outside in
            ap (λ l. unwrap_or (slice_get l place) place) front_is ∙ ap (λ o. unwrap_or o place) (past_at (length u.globals) _ place past)
            ∙ sym (ap (λ o. option_map_or (object_number all (offset + place)) o place) (slice_get_past u.globals place past)) ∙ at
      ]

  pub rest_more : (back : List ℕ) (n : ℕ) → n ≡ length u.globals → back ≡ drop n left → back ≡ drop (length (flat_map globals_of (yielded ++ u ∷ []))) numbers
  rest_more back n count cut =
      let sum : length (flat_map globals_of (yielded ++ u ∷ [])) ≡ length (flat_map globals_of yielded) + length u.globals =
      ap length (flat_map-append globals_of yielded (u ∷ []) ∙ ap (λ z. flat_map globals_of yielded ++ z) (append-nil u.globals)) ∙ length-append (flat_map globals_of yielded) u.globals in
      cut ∙ ap (λ k. drop k left) count ∙ ap (drop (length u.globals)) behind ∙ drop-drop (length u.globals) (length (flat_map globals_of yielded)) numbers ∙ ap (λ k. drop k numbers) (sym sum)
