-- The computed pairs are the least.
use Rattle.std.proofs.Common.{◌≡◌, ◌≢◌, ℕ, ◌<◌, ◌≤◌, List, [], ◌∷◌, Bool, true, false, refl, ap, sym, ◌∙◌, ◌⊎◌, inl, inr, subst, bytes_eq, arith}
use Rattle.std.specs.Prelude.{Option, Some, None, Contains, find, option_map}
use Rattle.std.specs.Option.{option_or}
use Rattle.std.proofs.lemmas.Bool.Decides.{eqb_tells}
use Rattle.po_lists.proofs.Members.{contains_none, contains_cases, contains_head, contains_tail}
use Rattle.po_lists.proofs.Booleans.{bool_cases}
use Rattle.po_lists.proofs.Options.{option_cases}
use Rattle.po_symbols.specs.Linking.{Differ}
use Rattle.po_symbols.specs.Pairs.{is_other, two_of, differs, pair_beyond, clash_of}
use Rattle.po_symbols.specs.Causes.{IsPairOf}
use Rattle.po_symbols.proofs.Places.{bytes_same, same_bytes}
use Rattle.po_symbols.proofs.Contained.{find_there, find_nothing}
use Rattle.po_symbols.proofs.Apart.{apart, told, with_third}

-- pairs that are related alike have the same least
pub pair_along : (P Q : ℕ → ℕ → Type 0) → ((a b : ℕ) → P a b → Q a b) → ((a b : ℕ) → Q a b → P a b) → (o : Option (ℕ × ℕ)) → IsPairOf P o → IsPairOf Q o
pair_along P Q f g None h = λ a b q. h a b (g a b q)
pair_along P Q f g (Some p) h = (f p.0 p.1 h.0, λ c d q. h.1 c d (g c d q))

-- ---- two files

-- files in their order, each perhaps more than once
abbrev pub Rises : List ℕ → Type 0
Rises [] = Unit {0}
Rises (x ∷ xs) = ((y : ℕ) → Contains xs y → x ≤ y) × Rises xs

abbrev pub TwoIn : List ℕ → ℕ → ℕ → Type 0
TwoIn xs a b = (a < b) × Contains xs a × Contains xs b

first_other : (p : ℕ → Bool) (xs : List ℕ) (y d : ℕ) → Rises xs → find p xs ≡ Some y → Contains xs d → p d ≡ true → y ≤ d
first_other p [] y d r h c t = absurd (contains_none d c)
first_other p (x ∷ xs) y d r h c t = elim (bool_cases (p x)) [
  | inl hit ↦
      let k : Some x ≡ Some y = sym (rw hit refl) ∙ h in
      let e : x ≡ y = cc in
      elim (contains_cases x xs d c) [ inl is ↦ (omega arith) | inr later ↦ let l = r.0 d later in (omega arith) ]
  | inr miss ↦
      let k : find p xs ≡ Some y = sym (rw miss refl) ∙ h in
      elim (contains_cases x xs d c) [
        | inl is ↦ let f : p d ≡ false = subst (λ z. p z ≡ false) is miss in absurd (cc)
        | inr later ↦ first_other p xs y d r.1 k later t
      ]
]

other_hit : (x y : ℕ) → x ≢ y → is_other x y ≡ true
other_hit x y h = elim (eqb_tells y x) [ inl s ↦ absurd (h (sym s.1)) | inr o ↦ rw o.0 refl ]

other_miss : (x y : ℕ) → is_other x y ≡ true → x ≢ y
other_miss x y h e = elim (eqb_tells y x) [ inl s ↦ let k : false ≡ true = sym (rw s.0 refl) ∙ h in absurd (cc) | inr o ↦ absurd (o.1 (sym e)) ]

only_it : (x : ℕ) (xs : List ℕ) → find (is_other x) xs ≡ None → (y : ℕ) → Contains (x ∷ xs) y → x ≡ y
only_it x xs none y c = elim (contains_cases x xs y c) [
  | inl e ↦ e
  | inr d ↦ elim (eqb_tells y x) [ inl s ↦ sym s.1 | inr o ↦ absurd (find_nothing (is_other x) xs y none d (other_hit x y (λ e. o.1 (sym e)))) ]
]

pub two_least : (xs : List ℕ) → Rises xs → IsPairOf (TwoIn xs) (two_of xs)
two_least [] r = λ a b t. contains_none a t.1
two_least (x ∷ xs) r = elim (option_cases (find (is_other x) xs)) [
  | inl none ↦ subst (λ o. IsPairOf (TwoIn (x ∷ xs)) (option_map (λ other. (x, other)) o)) (sym none) (λ a b t.
      let p = only_it x xs none a t.1 in
      let q = only_it x xs none b t.2 in
      let l = t.0 in
      absurd (omega arith))
  | inr s ↦
      let there = find_there (is_other x) xs s.0 s.1 in
      let above = r.0 s.0 there.0 in
      let not_it = other_miss x s.0 there.1 in
      let below : x < s.0 = omega arith in
      subst (λ o. IsPairOf (TwoIn (x ∷ xs)) (option_map (λ other. (x, other)) o)) (sym s.1) (
        (below, contains_head x xs, contains_tail x xs s.0 there.0),
        (λ c d t. elim (contains_cases x xs c t.1) [
          | inl e ↦
              let l = t.0 in
              elim (contains_cases x xs d t.2) [
                | inl f ↦ absurd (omega arith)
                | inr later ↦ inr (e, first_other (is_other x) xs s.0 d r.1 s.1 later (other_hit x d (λ f. absurd (omega arith))))
              ]
          | inr later ↦
              let l = r.0 c later in
              elim (eqb_tells x c) [
                | inl same ↦
                    let e = same.1 in
                    let m = t.0 in
                    elim (contains_cases x xs d t.2) [
                      | inl f ↦ absurd (omega arith)
                      | inr last ↦ inr (e, first_other (is_other x) xs s.0 d r.1 s.1 last (other_hit x d (λ f. absurd (omega arith))))
                    ]
                | inr other ↦ let o = other.1 in inl (omega arith)
              ]
        ]),
      )
]

-- ---- types that differ

-- files in their order, each once
abbrev pub Climbs : List (ℕ × List ℕ) → Type 0
Climbs [] = Unit {0}
Climbs (x ∷ xs) = ((y : ℕ × List ℕ) → Contains xs y → x.0 < y.0) × Climbs xs

pub record ClashIn (xs : List (ℕ × List ℕ)) (a b : ℕ) : Type 0 where
  pub type : List ℕ
  pub other : List ℕ
  pub first : Contains xs (a, type)
  pub second : Contains xs (b, other)
  pub ascending : a < b
  pub differ : Differ type other

first_differing : (p : ℕ × List ℕ → Bool) (xs : List (ℕ × List ℕ)) (y d : ℕ × List ℕ) → Climbs xs → find p xs ≡ Some y → Contains xs d → p d ≡ true → y.0 ≤ d.0
first_differing p [] y d r h c t = absurd (contains_none d c)
first_differing p (x ∷ xs) y d r h c t = elim (bool_cases (p x)) [
  | inl hit ↦
      let k : Some x ≡ Some y = sym (rw hit refl) ∙ h in
      let e : x ≡ y = cc in
      let f = ap (λ (z : ℕ × List ℕ). z.0) e in
      elim (contains_cases x xs d c) [ inl is ↦ let g = ap (λ (z : ℕ × List ℕ). z.0) is in (omega arith) | inr later ↦ let l = r.0 d later in (omega arith) ]
  | inr miss ↦
      let k : find p xs ≡ Some y = sym (rw miss refl) ∙ h in
      elim (contains_cases x xs d c) [
        | inl is ↦ let f : p d ≡ false = subst (λ z. p z ≡ false) is miss in absurd (cc)
        | inr later ↦ first_differing p xs y d r.1 k later t
      ]
]

abbrev file_of : ℕ × List ℕ → ℕ
file_of said = said.0

abbrev type_of : ℕ × List ℕ → List ℕ
type_of said = said.1

-- a clash stands among the later ones, or is with the first
clash_cases : (x : ℕ × List ℕ) (xs : List (ℕ × List ℕ)) (a b : ℕ) → Climbs (x ∷ xs) → (c : ClashIn (x ∷ xs) a b) → ((x.0 ≡ a) × Contains xs (b, c.other) × Differ x.1 c.other) ⊎ ((x.0 < a) × ClashIn xs a b)
clash_cases x xs a b r c = elim (contains_cases x xs (a, c.type) c.first) [
  | inl e ↦
      let file : x.0 ≡ a = ap file_of e in
      let type : x.1 ≡ c.type = ap type_of e in
      elim (contains_cases x xs (b, c.other) c.second) [
        | inl f ↦ let same : x.0 ≡ b = ap file_of f in let l = c.ascending in absurd (omega arith)
        | inr later ↦ inl (file, later, subst (λ z. Differ z c.other) (sym type) c.differ)
      ]
  | inr before ↦
      let above : x.0 < a = r.0 (a, c.type) before in
      elim (contains_cases x xs (b, c.other) c.second) [
        | inl f ↦ let same : x.0 ≡ b = ap file_of f in let l = c.ascending in absurd (omega arith)
        | inr later ↦ inr (above, record { type = c.type; other = c.other; first = before; second = later; ascending = c.ascending; differ = c.differ })
      ]
]

clash_later : (x : ℕ × List ℕ) (xs : List (ℕ × List ℕ)) (a b : ℕ) → ClashIn xs a b → ClashIn (x ∷ xs) a b
clash_later x xs a b c = record { type = c.type; other = c.other; first = contains_tail x xs (a, c.type) c.first; second = contains_tail x xs (b, c.other) c.second; ascending = c.ascending; differ = c.differ }

-- the pair with the first, where one differs from it
with_least : (x : ℕ × List ℕ) (xs : List (ℕ × List ℕ)) (y : ℕ × List ℕ) → Climbs (x ∷ xs) → find (differs x) xs ≡ Some y → IsPairOf (ClashIn (x ∷ xs)) (Some (x.0, y.0))
with_least x xs y r h =
    let there = find_there (differs x) xs y h in (
      record { type = x.1; other = y.1; first = contains_head x xs; second = contains_tail x xs y there.0; ascending = r.0 y there.0; differ = apart x.1 y.1 there.1 },
      λ c d k. elim (clash_cases x xs c d r k) [
        | inl first ↦ inr (first.0, first_differing (differs x) xs y (d, k.other) r.1 h first.1 (told x.1 k.other first.2))
        | inr later ↦ inl later.0
      ],
    )

-- no type differs from the first
abbrev Agree : List ℕ → List (ℕ × List ℕ) → Type 0
Agree type xs = (y : ℕ × List ℕ) → Contains xs y → Differ type y.1 → ⊥

without_least : (x : ℕ × List ℕ) (xs : List (ℕ × List ℕ)) (o : Option (ℕ × ℕ)) → Climbs (x ∷ xs) → Agree x.1 xs → IsPairOf (ClashIn xs) o → IsPairOf (ClashIn (x ∷ xs)) o
without_least x xs o r agree h =
    pair_along (ClashIn xs) (ClashIn (x ∷ xs)) (clash_later x xs)
    (λ a b c. elim (clash_cases x xs a b r c) [ inl first ↦ absurd (agree (b, c.other) first.1 first.2) | inr later ↦ later.1 ]) o h

agree_from : (type : List ℕ) (x : ℕ × List ℕ) (xs : List (ℕ × List ℕ)) → type ≡ x.1 → find (differs x) xs ≡ None → Agree type xs
agree_from type x xs e h y c d = find_nothing (differs x) xs y h c (told x.1 y.1 (subst (λ z. Differ z y.1) e d))

beyond_least : (type : List ℕ) (xs : List (ℕ × List ℕ)) → Climbs xs → Agree type xs → IsPairOf (ClashIn xs) (pair_beyond type xs)
beyond_least type [] r agree = λ a b c. contains_none (a, c.type) c.first
beyond_least type (x ∷ xs) r agree =
    let later : Agree type xs = λ y c d. agree y (contains_tail x xs y c) d in
    elim (bool_cases (bytes_eq x.1 type)) [
      | inl same ↦
          let e : x.1 ≡ type = bytes_same x.1 type same in
          rw same (without_least x xs (pair_beyond type xs) r (subst (λ z. Agree z xs) (sym e) later) (beyond_least type xs r.1 later))
      | inr other ↦
          let not_it : x.1 ≢ type = λ e. let k : bytes_eq x.1 type ≡ true = subst (λ z. bytes_eq x.1 z ≡ true) e (same_bytes x.1) in cc in
          rw other (elim (option_cases (find (differs x) xs)) [
            | inr s ↦ subst (λ o. IsPairOf (ClashIn (x ∷ xs)) (option_map (λ (y : ℕ × List ℕ). (x.0, y.0)) o)) (sym s.1) (with_least x xs s.0 r s.1)
            | inl none ↦ subst (λ o. IsPairOf (ClashIn (x ∷ xs)) (option_map (λ (y : ℕ × List ℕ). (x.0, y.0)) o)) (sym none) (λ a b c.
                elim (clash_cases x xs a b r c) [
                  | inl first ↦ agree_from x.1 x xs refl none (b, c.other) first.1 first.2
                  | inr k ↦
                      let d = k.1 in
                      elim (with_third type x.1 d.type d.other not_it (agree x (contains_head x xs)) (later (a, d.type) d.first) (later (b, d.other) d.second) d.differ) [
                        | inl m ↦ agree_from x.1 x xs refl none (a, d.type) d.first m
                        | inr m ↦ agree_from x.1 x xs refl none (b, d.other) d.second m
                      ]
                ])
          ])
    ]

pub clash_least : (xs : List (ℕ × List ℕ)) → Climbs xs → IsPairOf (ClashIn xs) (clash_of xs)
clash_least [] r = λ a b c. contains_none (a, c.type) c.first
clash_least (x ∷ xs) r = elim (option_cases (find (differs x) xs)) [
  | inr s ↦ subst (λ o. IsPairOf (ClashIn (x ∷ xs)) (option_or (option_map (λ (y : ℕ × List ℕ). (x.0, y.0)) o) (pair_beyond x.1 xs))) (sym s.1) (with_least x xs s.0 r s.1)
  | inl none ↦
      let agree = agree_from x.1 x xs refl none in
      subst (λ o. IsPairOf (ClashIn (x ∷ xs)) (option_or (option_map (λ (y : ℕ × List ℕ). (x.0, y.0)) o) (pair_beyond x.1 xs))) (sym none)
      (without_least x xs (pair_beyond x.1 xs) r agree (beyond_least x.1 xs r.1 agree))
]
