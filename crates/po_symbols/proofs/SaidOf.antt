-- What is listed of a name is what the files say of it.
use Rattle.std.proofs.Common.{◌≡◌, ℕ, ◌+◌, ◌<◌, ◌≤◌, List, [], ◌∷◌, ◌++◌, true, refl, ap, sym, inl, inr, subst, bytes_eq, arith}
use Rattle.std.specs.Prelude.{Option, Some, None, MatchOption, Contains, slice_get}
use Rattle.std.specs.Option.{option_map_or}
use Rattle.std.proofs.lemmas.List.Elements.{Contains-append_left, Contains-append_right, Contains-append_cases}
use Rattle.po_lists.proofs.Members.{contains_none, contains_cases, contains_head, contains_tail}
use Rattle.po_ir.specs.declared.unit.Unit.{Unit as FileUnit}
use Rattle.po_ir.specs.General.{each_from}
use Rattle.po_ir.proofs.General.{into_each, from_each, alone}
use Rattle.po_symbols.specs.Linking.{InFile, GivesBody, HasType, bodies, type_in, AreTwoBodies, AreClashing}
use Rattle.po_symbols.specs.Said.{mark, marks, marks_at, body_files, type_at, typed_files}
use Rattle.po_symbols.specs.Pairs.{two_of, clash_of}
use Rattle.po_symbols.specs.Causes.{IsPairOf}
use Rattle.po_symbols.proofs.Places.{bytes_same, same_bytes}
use Rattle.po_symbols.proofs.LeastPairs.{Rises, TwoIn, two_least, Climbs, ClashIn, clash_least, pair_along}

-- ---- bodies

mark_there : (name : List ℕ) (file : ℕ) (names : List (List ℕ)) → Contains names name → Contains (marks name file names) file
mark_there name file [] c = absurd (contains_none name c)
mark_there name file (n ∷ ns) c = elim (contains_cases n ns name c) [
  | inl e ↦ Contains-append_left (mark name file n) (marks name file ns) file (let t : bytes_eq n name ≡ true = subst (λ z. bytes_eq n z ≡ true) e (same_bytes n) in rw t (contains_head file []))
  | inr d ↦ Contains-append_right (mark name file n) (marks name file ns) file (mark_there name file ns d)
]

there_marked : (name : List ℕ) (file : ℕ) (names : List (List ℕ)) (y : ℕ) → Contains (marks name file names) y → (file ≡ y) × Contains names name
there_marked name file [] y c = absurd (contains_none y c)
there_marked name file (n ∷ ns) y c = elim (Contains-append_cases (mark name file n) (marks name file ns) y c) [
  | inl a ↦ let k = alone (bytes_eq n name) file y a in (k.1, subst (λ z. Contains (n ∷ ns) z) (bytes_same n name k.0) (contains_head n ns))
  | inr b ↦ let r = there_marked name file ns y b in (r.0, contains_tail n ns name r.1)
]

pub in_file : (units : List FileUnit) (file : ℕ) (u : FileUnit) (P : FileUnit → Type 0) → slice_get units file ≡ Some u → P u → InFile units file P
in_file units file u P h p = subst (λ o. MatchOption o ⊥ P) (sym h) p

file_in : (o : Option FileUnit) (P : FileUnit → Type 0) → MatchOption o ⊥ P → (u : FileUnit) × (o ≡ Some u) × P u
file_in None P h = absurd (h)
file_in (Some u) P h = (u, refl, h)

body_listed : (name : List ℕ) (units : List FileUnit) (file : ℕ) → InFile units file (GivesBody name) → Contains (body_files name units) file
body_listed name units file h =
    let r = file_in (slice_get units file) (GivesBody name) h in
    let e : 0 + file ≡ file = omega arith in
    into_each (marks_at name) 0 units file r.0 file r.1 (subst (λ k. Contains (marks name (0 + file) (bodies r.0)) k) e (mark_there name (0 + file) (bodies r.0) r.2))

listed_body : (name : List ℕ) (units : List FileUnit) (file : ℕ) → Contains (body_files name units) file → InFile units file (GivesBody name)
listed_body name units file c =
    let r = from_each (marks_at name) 0 units file c in
    let m = there_marked name (0 + r.0) (bodies r.1) file r.3 in
    let g = m.0 in
    let e : r.0 ≡ file = omega arith in
    in_file units file r.1 (GivesBody name) (subst (λ k. slice_get units k ≡ Some r.1) e r.2) m.1

rises_append : (n : ℕ) (xs ys : List ℕ) → ((y : ℕ) → Contains xs y → n ≡ y) → ((y : ℕ) → Contains ys y → n ≤ y) → Rises ys → Rises (xs ++ ys)
rises_append n [] ys h k r = r
rises_append n (x ∷ xs) ys h k r =
    let e = h x (contains_head x xs) in (
      (λ y c. elim (Contains-append_cases xs ys y c) [ inl a ↦ let f = h y (contains_tail x xs y a) in (omega arith) | inr b ↦ let f = k y b in (omega arith) ]),
      rises_append n xs ys (λ y c. h y (contains_tail x xs y c)) k r,
    )

rises_each : (name : List ℕ) (n : ℕ) (units : List FileUnit) → Rises (each_from (marks_at name) n units)
rises_each name n [] = tt
rises_each name n (u ∷ us) =
    rises_append n (marks_at name n u) (each_from (marks_at name) (n + 1) us)
    (λ y c. (there_marked name n (bodies u) y c).0)
    (λ y c. let r = from_each (marks_at name) (n + 1) us y c in let e = (there_marked name ((n + 1) + r.0) (bodies r.1) y r.3).0 in (omega arith))
    (rises_each name (n + 1) us)

pub bodies_least : (name : List ℕ) (units : List FileUnit) → IsPairOf (AreTwoBodies units name) (two_of (body_files name units))
bodies_least name units =
    pair_along (TwoIn (body_files name units)) (AreTwoBodies units name)
    (λ a b t. record { ascending = t.0; first = listed_body name units a t.1; second = listed_body name units b t.2 })
    (λ a b t. (t.ascending, body_listed name units a t.first, body_listed name units b t.second))
    (two_of (body_files name units)) (two_least (body_files name units) (rises_each name 0 units))

-- ---- types

typed_there : (file : ℕ) (type : List ℕ) (o : Option (List ℕ)) → o ≡ Some type → Contains {X = ℕ × List ℕ} (option_map_or (λ t. (file, t) ∷ []) o []) (file, type)
typed_there file type o h = subst (λ z. Contains {X = ℕ × List ℕ} (option_map_or (λ t. (file, t) ∷ []) z []) (file, type)) (sym h) (contains_head (file, type) [])

pub there_typed : (file : ℕ) (o : Option (List ℕ)) (y : ℕ × List ℕ) → Contains (option_map_or (λ t. (file, t) ∷ []) o []) y → (file ≡ y.0) × (o ≡ Some y.1)
there_typed file None y c = absurd (contains_none y c)
there_typed file (Some t) y c = elim (contains_cases (file, t) [] y c) [
  | inl e ↦ (ap (λ (z : ℕ × List ℕ). z.0) e, ap (λ (z : ℕ × List ℕ). Some z.1) e)
  | inr n ↦ absurd (contains_none y n)
]

type_listed : (name type : List ℕ) (units : List FileUnit) (file : ℕ) → InFile units file (HasType name type) → Contains (typed_files name units) (file, type)
type_listed name type units file h =
    let r = file_in (slice_get units file) (HasType name type) h in
    let e : 0 + file ≡ file = omega arith in
    into_each (type_at name) 0 units file r.0 (file, type) r.1 (subst (λ k. Contains {X = ℕ × List ℕ} (type_at name (0 + file) r.0) (k, type)) e (typed_there (0 + file) type (type_in name r.0.declared) r.2))

listed_type : (name type : List ℕ) (units : List FileUnit) (file : ℕ) → Contains (typed_files name units) (file, type) → InFile units file (HasType name type)
listed_type name type units file c =
    let r = from_each (type_at name) 0 units (file, type) c in
    let m = there_typed (0 + r.0) (type_in name r.1.declared) (file, type) r.3 in
    let g : 0 + r.0 ≡ file = m.0 in
    let e : r.0 ≡ file = omega arith in
    in_file units file r.1 (HasType name type) (subst (λ k. slice_get units k ≡ Some r.1) e r.2) m.1

climbs_one : (file : ℕ) (o : Option (List ℕ)) (ys : List (ℕ × List ℕ)) → ((y : ℕ × List ℕ) → Contains ys y → file < y.0) → Climbs ys → Climbs (option_map_or (λ t. (file, t) ∷ []) o [] ++ ys)
climbs_one file None ys h r = r
climbs_one file (Some t) ys h r = (h, r)

climbs_each : (name : List ℕ) (n : ℕ) (units : List FileUnit) → Climbs (each_from (type_at name) n units)
climbs_each name n [] = tt
climbs_each name n (u ∷ us) =
    climbs_one n (type_in name u.declared) (each_from (type_at name) (n + 1) us)
    (λ y c. let r = from_each (type_at name) (n + 1) us y c in let e = (there_typed ((n + 1) + r.0) (type_in name r.1.declared) y r.3).0 in (omega arith))
    (climbs_each name (n + 1) us)

pub types_least : (name : List ℕ) (units : List FileUnit) → IsPairOf (AreClashing units name) (clash_of (typed_files name units))
types_least name units =
    pair_along (ClashIn (typed_files name units)) (AreClashing units name)
    (λ a b c. record { ascending = c.ascending; type = c.type; other = c.other; first = listed_type name c.type units a c.first; second = listed_type name c.other units b c.second; differ = c.differ })
    (λ a b c. record { type = c.type; other = c.other; first = type_listed name c.type units a c.first; second = type_listed name c.other units b c.second; ascending = c.ascending; differ = c.differ })
    (clash_of (typed_files name units)) (clash_least (typed_files name units) (climbs_each name 0 units))
