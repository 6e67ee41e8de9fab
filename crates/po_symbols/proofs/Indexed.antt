-- One file more, or one name more, in what is listed.
use Rattle.std.proofs.Common.{◌≡◌, ◌≢◌, ℕ, zero, suc, ◌+◌, ◌-◌, ◌<◌, ◌≤◌, ◌==◌, List, [], ◌∷◌, ◌++◌, true, false, cond, length, take, get_or, refl, ap, sym, ◌∙◌, inl, inr, append_assoc, append-nil, bytes_eq, arith}
use Rattle.std.specs.Prelude.{Some, None, Contains, find, flat_map, slice_get, option_map}
use Rattle.std.specs.Option.{option_or, option_map_or}
use Rattle.std.specs.BTreeMap.{BTreeMap}
use Rattle.std.proofs.lemmas.List.{take_more, length_push, length-take-le}
use Rattle.std.proofs.lemmas.List.Concat.{flat_map-append}
use Rattle.std.proofs.lemmas.Bool.{eq-eqb, ne_eqb}
use Rattle.po_lists.proofs.Members.{contains_item}
use Rattle.po_lists.proofs.Booleans.{bool_cases}
use Rattle.po_lists.proofs.Options.{option_cases}
use Rattle.po_ir.specs.declared.project.CTypeText.{CTypeText}
use Rattle.po_ir.specs.declared.project.Function.{Function}
use Rattle.po_ir.specs.declared.project.Global.{Global}
use Rattle.po_ir.specs.declared.unit.Unit.{Unit as FileUnit}
use Rattle.po_ir.specs.General.{each_from}
use Rattle.po_ir.proofs.General.{from_each, each_from-more}
use Rattle.po_symbols.specs.Linking.{function_body, global_body, bodies, declares, spelling_of, type_in}
use Rattle.po_symbols.specs.Names.{listed}
use Rattle.po_symbols.specs.Said.{AreBodies, AreTypes, mark, marks, function_marks, global_marks, marks_at, body_files, typed_in, type_at, typed_files, ends_with_file, with_type}
use Rattle.po_symbols.proofs.Places.{find-push}
use Rattle.po_symbols.proofs.SaidOf.{there_typed}

-- ---- bodies

marks-flat : {X : Type 0} (name : List ℕ) (file : ℕ) (body : X → List (List ℕ)) (xs : List X) → marks name file (flat_map body xs) ≡ flat_map (λ x. marks name file (body x)) xs
marks-flat name file body [] = refl
marks-flat name file body (x ∷ xs) = flat_map-append (mark name file) (body x) (flat_map body xs) ∙ ap (λ l. marks name file (body x) ++ l) (marks-flat name file body xs)

-- the bodies of a file are those of its functions and of its globals
pub marks_joined : (name : List ℕ) (file : ℕ) (u : FileUnit) → flat_map (function_marks name file) u.functions ++ flat_map (global_marks name file) u.globals ≡ marks name file (bodies u)
marks_joined name file u =
    ap (λ l. l ++ flat_map (global_marks name file) u.globals) (sym (marks-flat name file function_body u.functions))
    ∙ ap (λ l. marks name file (flat_map function_body u.functions) ++ l) (sym (marks-flat name file global_body u.globals))
    ∙ sym (flat_map-append (mark name file) (flat_map function_body u.functions) (flat_map global_body u.globals))

-- ---- types

last_is : (xs : List (ℕ × List ℕ)) (y : ℕ × List ℕ) → slice_get (xs ++ y ∷ []) (length (xs ++ y ∷ []) - 1) ≡ Some y
last_is xs y = let l = length_push xs y in let e : length (xs ++ y ∷ []) - 1 ≡ length xs = omega arith in rw e (pushed xs y)
  where
    pushed : (xs : List (ℕ × List ℕ)) (y : ℕ × List ℕ) → slice_get (xs ++ y ∷ []) (length xs) ≡ Some y
    pushed [] y = refl
    pushed (x ∷ xs) y = pushed xs y

ends_pushed : (xs : List (ℕ × List ℕ)) (file : ℕ) (type : List ℕ) → ends_with_file (xs ++ (file, type) ∷ []) file ≡ true
ends_pushed xs file type = ap (λ o. option_map_or (λ (last : ℕ × List ℕ). last.0 == file) o false) (last_is xs (file, type)) ∙ eq-eqb file file refl

-- what earlier files say doesn't end with a later one
ends_before : (xs : List (ℕ × List ℕ)) (file : ℕ) → ((y : ℕ × List ℕ) → Contains xs y → y.0 ≢ file) → ends_with_file xs file ≡ false
ends_before xs file h = elim (option_cases (slice_get xs (length xs - 1))) [
  | inl none ↦ ap (λ o. option_map_or (λ (last : ℕ × List ℕ). last.0 == file) o false) none
  | inr s ↦ ap (λ o. option_map_or (λ (last : ℕ × List ℕ). last.0 == file) o false) s.1 ∙ ne_eqb s.0.0 file (h s.0 (contains_item xs (length xs - 1) s.0 s.1))
]

below_count : (name : List ℕ) (n : ℕ) (units : List FileUnit) (y : ℕ × List ℕ) → Contains (each_from (type_at name) n units) y → y.0 < n + length units
below_count name n units y c =
    let r = from_each (type_at name) n units y c in
    let e = (there_typed (n + r.0) (type_in name r.1.declared) y r.3).0 in
    let l = below units r.0 r.1 r.2 in
    omega arith
  where
    below : {X : Type 0} (xs : List X) (i : ℕ) (x : X) → slice_get xs i ≡ Some x → i < length xs
    below [] i x h = absurd (cc)
    below (y ∷ ys) zero x h = omega arith
    below (y ∷ ys) (suc i) x h = let r = below ys i x h in omega arith

pub ends_earlier : (name : List ℕ) (units : List FileUnit) (file : ℕ) → length units ≤ file → ends_with_file (typed_files name units) file ≡ false
ends_earlier name units file h = ends_before (typed_files name units) file (λ y c e. let l = below_count name 0 units y c in absurd (omega arith))

-- one more declaration
pub type_more : (name : List ℕ) (before : List (ℕ × List ℕ)) (file : ℕ) (declared : List (List ℕ × CTypeText)) (d : List ℕ × CTypeText) → ends_with_file before file ≡ false →
    cond (bytes_eq d.0 name) (with_type (before ++ typed_in name file declared) file d.1.text) (before ++ typed_in name file declared) ≡ before ++ typed_in name file (declared ++ d ∷ [])
type_more name before file declared d fresh =
    elim (option_cases (find (declares name) declared)) [
      | inr s ↦
          let known : typed_in name file declared ≡ (file, spelling_of s.0) ∷ [] = ap (λ o. option_map_or (λ type. (file, type) ∷ []) (option_map spelling_of o) []) s.1 in
          let more : typed_in name file (declared ++ d ∷ []) ≡ (file, spelling_of s.0) ∷ [] =
          ap (λ o. option_map_or (λ type. (file, type) ∷ []) (option_map spelling_of o) []) (find-push (declares name) declared d ∙ ap (λ o. option_or o (cond (declares name d) (Some d) None)) s.1) in
          rw (known, more) (elim (bool_cases (bytes_eq d.0 name)) [
            | inl hit ↦ rw hit (ap (λ b. cond b (before ++ (file, spelling_of s.0) ∷ []) ((before ++ (file, spelling_of s.0) ∷ []) ++ (file, d.1.text) ∷ [])) (ends_pushed before file (spelling_of s.0)))
            | inr miss ↦ rw miss refl
          ])
      | inl none ↦
          let known : typed_in name file declared ≡ [] = ap (λ o. option_map_or (λ type. (file, type) ∷ []) (option_map spelling_of o) []) none in
          let found : find (declares name) (declared ++ d ∷ []) ≡ cond (bytes_eq d.0 name) (Some d) None = find-push (declares name) declared d ∙ ap (λ o. option_or o (cond (declares name d) (Some d) None)) none in
          let whole : before ++ [] ≡ before = append-nil before in
          elim (bool_cases (bytes_eq d.0 name)) [
            | inl hit ↦
                let there : find (declares name) (declared ++ d ∷ []) ≡ Some d = found ∙ rw hit refl in
                let more : typed_in name file (declared ++ d ∷ []) ≡ (file, d.1.text) ∷ [] = ap (λ o. option_map_or (λ type. (file, type) ∷ []) (option_map spelling_of o) []) there in
                rw (known, more, whole, hit, fresh) refl
            | inr miss ↦
                let there : find (declares name) (declared ++ d ∷ []) ≡ None = found ∙ rw miss refl in
                let more : typed_in name file (declared ++ d ∷ []) ≡ [] = ap (λ o. option_map_or (λ type. (file, type) ∷ []) (option_map spelling_of o) []) there in
                rw (known, more, whole, miss) refl
          ]
    ]

-- ---- the steps

pub unit_noted : (before mid after : BTreeMap (List ℕ) (List ℕ)) (file : ℕ) (u : FileUnit) (fs : List Function) (gs : List Global) → fs ≡ u.functions → gs ≡ u.globals →
    ((q : List ℕ) → listed mid q ≡ listed before q ++ flat_map (function_marks q file) fs) → ((q : List ℕ) → listed after q ≡ listed mid q ++ flat_map (global_marks q file) gs) →
    (q : List ℕ) → listed after q ≡ listed before q ++ marks q file (bodies u)
unit_noted before mid after file u fs gs functions globals first second q =
    second q ∙ ap (λ l. l ++ flat_map (global_marks q file) gs) (first q)
    ∙ ap (λ (l : List Function). (listed before q ++ flat_map (function_marks q file) l) ++ flat_map (global_marks q file) gs) functions
    ∙ ap (λ (l : List Global). (listed before q ++ flat_map (function_marks q file) u.functions) ++ flat_map (global_marks q file) l) globals
    ∙ append_assoc (listed before q) (flat_map (function_marks q file) u.functions) (flat_map (global_marks q file) u.globals) ∙ ap (λ l. listed before q ++ l) (marks_joined q file u)

pub bodies_more : (units : List FileUnit) (place number : ℕ) (u : FileUnit) (before after : BTreeMap (List ℕ) (List ℕ)) → place < length units → u ≡ get_or units place u → number ≡ place →
    AreBodies (take place units) before → ((q : List ℕ) → listed after q ≡ listed before q ++ marks q number (bodies u)) → AreBodies (take (place + 1) units) after
bodies_more units place number u before after below is same h more = record {
  each = λ q.
      more q ∙ ap (λ l. l ++ marks q number (bodies u)) (h.each q) ∙ ap (λ k. body_files q (take place units) ++ marks q k (bodies u)) same
      ∙ sym (each_from-more (marks_at q) units place u below is);
}

pub type_step : (q : List ℕ) (old new before : List (ℕ × List ℕ)) (file : ℕ) (declared : List (List ℕ × CTypeText)) (i : ℕ) (d : List ℕ × CTypeText) → i < length declared → d ≡ get_or declared i d →
    ends_with_file before file ≡ false → old ≡ before ++ typed_in q file (take i declared) → new ≡ cond (bytes_eq d.0 q) (with_type old file d.1.text) old → new ≡ before ++ typed_in q file (take (i + 1) declared)
type_step q old new before file declared i d below is fresh so_far step =
    step ∙ ap (λ l. cond (bytes_eq d.0 q) (with_type l file d.1.text) l) so_far ∙ type_more q before file (take i declared) d fresh
    ∙ ap (λ l. before ++ typed_in q file l) (sym (take_more declared i d below ∙ ap (λ x. take i declared ++ x ∷ []) (sym is)))

pub types_more : (units : List FileUnit) (place number : ℕ) (u : FileUnit) (declared : List (List ℕ × CTypeText)) (before after : BTreeMap (List ℕ) (List (ℕ × List ℕ))) → declared ≡ u.declared → place < length units → u ≡ get_or units place u → number ≡ place →
    AreTypes (take place units) before → ((q : List ℕ) → ends_with_file (listed before q) number ≡ false → listed after q ≡ listed before q ++ typed_in q number declared) → AreTypes (take (place + 1) units) after
types_more units place number u declared before after whole below is same h more = record {
  each = λ q.
      let few : length (take place units) ≤ number = let l = length-take-le place units (le_from place (length units) below) in omega arith in
      let fresh : ends_with_file (listed before q) number ≡ false = ap (λ l. ends_with_file l number) (h.each q) ∙ ends_earlier q (take place units) number few in
      more q fresh ∙ ap (λ (d : List (List ℕ × CTypeText)). listed before q ++ typed_in q number d) whole ∙ ap (λ l. l ++ typed_in q number u.declared) (h.each q) ∙ ap (λ k. typed_files q (take place units) ++ typed_in q k u.declared) same
      ∙ sym (each_from-more (type_at q) units place u below is);
}
  where
    le_from : (m n : ℕ) → m < n → m ≤ n
    le_from m n h = omega arith
