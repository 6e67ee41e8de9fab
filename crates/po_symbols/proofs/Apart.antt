-- Types that differ, and their computed test.
use Rattle.std.proofs.Common.{◌≡◌, ◌≢◌, ℕ, List, [], ◌∷◌, ◌++◌, true, false, take, drop, refl, ap, sym, ◌∙◌, ◌⊎◌, inl, inr, subst, bytes_eq, arith}
use Rattle.std.specs.Prelude.{Contains, codes}
use Rattle.std.proofs.lemmas.Bool.Decides.{eqb_tells}
use Rattle.std.proofs.lemmas.List.{take-append-drop}
use Rattle.po_lists.proofs.Members.{contains_none, contains_cases, contains_head, contains_tail}
use Rattle.po_lists.proofs.Booleans.{bool_cases}
use Rattle.po_symbols.specs.Linking.{IsSizeless, Differ}
use Rattle.po_symbols.specs.Differing.{follows_bracket, is_sizeless, differ}
use Rattle.po_symbols.proofs.Places.{bytes_same, same_bytes}

-- ---- what follows the first `]`

pub one_split : (a b i j : List ℕ) → a ++ 93 ∷ i ≡ b ++ 93 ∷ j → (Contains a 93 → ⊥) → (Contains b 93 → ⊥) → i ≡ j
one_split [] [] i j e h k = cc
one_split [] (y ∷ ys) i j e h k = let same : 93 ≡ y = cc in absurd (k (subst (λ z. Contains (z ∷ ys) 93) same (contains_head 93 ys)))
one_split (x ∷ xs) [] i j e h k = let same : 93 ≡ x = cc in absurd (h (subst (λ z. Contains (z ∷ xs) 93) same (contains_head 93 xs)))
one_split (x ∷ xs) (y ∷ ys) i j e h k =
    let rest : xs ++ 93 ∷ i ≡ ys ++ 93 ∷ j = cc in
    one_split xs ys i j rest (λ c. h (contains_tail x xs 93 c)) (λ c. k (contains_tail y ys 93 c))

follows : (t item : List ℕ) → follows_bracket t item ≡ true → (size : List ℕ) × (t ≡ size ++ 93 ∷ item) × (Contains size 93 → ⊥)
follows [] item h = absurd (cc)
follows (c ∷ cs) item h = elim (eqb_tells c 93) [
  | inl hit ↦
      let same : bytes_eq cs item ≡ true = sym (rw hit.0 refl) ∙ h in
      ([], rw (hit.1, bytes_same cs item same) refl, contains_none 93)
  | inr miss ↦
      let later : follows_bracket cs item ≡ true = sym (rw miss.0 refl) ∙ h in
      let r = follows cs item later in
      (c ∷ r.0, ap (λ z. c ∷ z) r.1, λ k. elim (contains_cases c r.0 93 k) [ inl e ↦ absurd (miss.1 e) | inr d ↦ absurd (r.2 d) ])
]

followed : (size item : List ℕ) → (Contains size 93 → ⊥) → follows_bracket (size ++ 93 ∷ item) item ≡ true
followed [] item h = same_bytes item
followed (c ∷ cs) item h = elim (eqb_tells c 93) [
  | inl hit ↦ absurd (h (subst (λ z. Contains (z ∷ cs) 93) (sym hit.1) (contains_head 93 cs)))
  | inr miss ↦ rw miss.0 (followed cs item (λ k. h (contains_tail c cs 93 k)))
]

-- ---- arrays without a size

take_drop : (n : ℕ) (s : List ℕ) → s ≡ take n s ++ drop n s
take_drop n s = sym (take-append-drop n s)

sizeless : (s t : List ℕ) → is_sizeless s t ≡ true → IsSizeless s t
sizeless s t h = elim (bool_cases (bytes_eq (codes "[]") (take 2 s))) [
  | inl hit ↦
      let behind : follows_bracket t (drop 2 s) ≡ true = sym (rw hit refl) ∙ h in
      let r = follows t (drop 2 s) behind in
      (drop 2 s, r.0, take_drop 2 s ∙ ap (λ z. z ++ drop 2 s) (sym (bytes_same (codes "[]") (take 2 s) hit)), r.1, r.2)
  | inr miss ↦ let k : false ≡ true = sym (rw miss refl) ∙ h in absurd (cc)
]

sized : (s t : List ℕ) → IsSizeless s t → is_sizeless s t ≡ true
sized s t h =
    let item = h.0 in
    let first : is_sizeless (codes "[]" ++ item) (h.1 ++ 93 ∷ item) ≡ true = followed h.1 item h.4 in
    subst (λ z. is_sizeless z t ≡ true) (sym h.2) (subst (λ z. is_sizeless (codes "[]" ++ item) z ≡ true) (sym h.3) first)

-- ---- the test

pub apart : (s t : List ℕ) → differ s t ≡ true → Differ s t
apart s t h = elim (bool_cases (bytes_eq s t)) [
  | inl same ↦ let k : false ≡ true = sym (rw same refl) ∙ h in absurd (cc)
  | inr other ↦ elim (bool_cases (is_sizeless s t)) [
    | inl first ↦ let k : false ≡ true = sym (rw (other, first) refl) ∙ h in absurd (cc)
    | inr not_first ↦ elim (bool_cases (is_sizeless t s)) [
      | inl second ↦ let k : false ≡ true = sym (rw (other, not_first, second) refl) ∙ h in absurd (cc)
      | inr not_second ↦ (
        λ e. let k : bytes_eq s t ≡ true = subst (λ z. bytes_eq s z ≡ true) e (same_bytes s) in cc,
        λ k. let l = sized s t k in cc,
        λ k. let l = sized t s k in cc,
      )
    ]
  ]
]

-- two types are the same, one is the other without its size, or they differ
pub differ_cases : (s t : List ℕ) → ((differ s t ≡ false) × ((s ≡ t) ⊎ (IsSizeless s t ⊎ IsSizeless t s))) ⊎ ((differ s t ≡ true) × Differ s t)
differ_cases s t = elim (bool_cases (bytes_eq s t)) [
  | inl same ↦ inl (rw same refl, inl (bytes_same s t same))
  | inr other ↦ elim (bool_cases (is_sizeless s t)) [
    | inl first ↦ inl (rw (other, first) refl, inr (inl (sizeless s t first)))
    | inr not_first ↦ elim (bool_cases (is_sizeless t s)) [
      | inl second ↦ inl (rw (other, not_first, second) refl, inr (inr (sizeless t s second)))
      | inr not_second ↦ let hit : differ s t ≡ true = rw (other, not_first, not_second) refl in inr (hit, apart s t hit)
    ]
  ]
]

pub told : (s t : List ℕ) → Differ s t → differ s t ≡ true
told s t d = elim (differ_cases s t) [
  | inl same ↦ elim same.1 [ inl e ↦ absurd (d.0 e) | inr l ↦ elim l [ inl k ↦ absurd (d.1 k) | inr k ↦ absurd (d.2 k) ] ]
  | inr hit ↦ hit.0
]

pub differ_back : (s t : List ℕ) → Differ s t → Differ t s
differ_back s t d = (λ e. d.0 (sym e), d.2, d.1)

-- ---- three types, of which two agree with the third

-- two arrays without a size for which one stands are the same
same_sizeless : (t u x : List ℕ) → IsSizeless t x → IsSizeless u x → t ≡ u
same_sizeless t u x h k =
    let items = one_split h.1 k.1 h.0 k.0 (sym h.3 ∙ k.3) h.4 k.4 in
    h.2 ∙ ap (λ z. codes "[]" ++ z) items ∙ sym k.2

no_bracket : Contains {X = ℕ} (91 ∷ []) 93 → ⊥
no_bracket c = elim (contains_cases 91 [] 93 c) [ inl e ↦ absurd (omega arith) | inr n ↦ absurd (contains_none 93 n) ]

-- what stands for an array without a size, and is one itself, is that
sizeless_once : (t x w : List ℕ) → IsSizeless t x → IsSizeless x w → t ≡ x
sizeless_once t x w h k =
    let items : h.0 ≡ k.0 = one_split h.1 (91 ∷ []) h.0 k.0 (sym h.3 ∙ k.2) h.4 no_bracket in
    h.2 ∙ ap (λ z. codes "[]" ++ z) items ∙ sym k.2

-- what agrees with an array without a size is it or another array of its items
pub with_third : (x s t u : List ℕ) → s ≢ x → (Differ x s → ⊥) → (Differ x t → ⊥) → (Differ x u → ⊥) → Differ t u → Differ s t ⊎ Differ s u
with_third x s t u apart_s agrees_s agrees_t agrees_u d =
    let not_t : t ≢ x = λ e. agrees_u (subst (λ z. Differ z u) e d) in
    let not_u : u ≢ x = λ e. agrees_t (differ_back t x (subst (λ z. Differ t z) e d)) in
    elim (related x t not_t agrees_t) [
      | inr t_x ↦ elim (related x u not_u agrees_u) [
        | inr u_x ↦ absurd (d.0 (same_sizeless t u x t_x u_x))
        | inl x_u ↦ absurd (not_t (sizeless_once t x u t_x x_u))
      ]
      | inl x_t ↦ elim (related x u not_u agrees_u) [
        | inr u_x ↦ absurd (not_u (sizeless_once u x t u_x x_t))
        | inl x_u ↦ elim (related x s apart_s agrees_s) [
          | inr s_x ↦ absurd (apart_s (sizeless_once s x t s_x x_t))
          | inl x_s ↦ elim (differ_cases s t) [
            | inr hit ↦ inl hit.1
            | inl same ↦ elim same.1 [
              | inl e ↦ inr (subst (λ z. Differ z u) (sym e) d)
              | inr l ↦ elim l [
                | inl s_t ↦ absurd (apart_s (sym (sizeless_once x s t x_s s_t)))
                | inr t_s ↦ absurd (not_t (sym (sizeless_once x t s x_t t_s)))
              ]
            ]
          ]
        ]
      ]
    ]
  where
    related : (x y : List ℕ) → y ≢ x → (Differ x y → ⊥) → IsSizeless x y ⊎ IsSizeless y x
    related x y other agrees = elim (differ_cases x y) [
      | inr hit ↦ absurd (agrees hit.1)
      | inl same ↦ elim same.1 [ inl e ↦ absurd (other (sym e)) | inr l ↦ l ]
    ]
