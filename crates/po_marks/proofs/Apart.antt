-- Lists in which no item stands twice.
use Rattle.std.proofs.Common.{◌≡◌, ℕ, zero, suc, ◌+◌, ◌<◌, List, [], ◌∷◌, ◌++◌, length, take, get_or, refl, sym, ◌∙◌, ap, subst, inl, inr, arith}
use Rattle.std.specs.Prelude.{Bool, true, false, Option, Some, slice_get, filter}
use Rattle.std.specs.List.{Contains, flat_map}
use Rattle.std.proofs.lemmas.List.Elements.{Contains-append_cases, Contains-append_left, Contains-append_right, Contains-get_or}
use Rattle.po_core.specs.Core.{AreApart}
use Rattle.po_lists.proofs.Members.{Has, has, contains}

module _ {X : Type 0} where
  -- an item doesn't stand before its place
  before_place : (xs : List X) (i : ℕ) (x : X) → AreApart xs → i < length xs → get_or xs i x ≡ x → Has (take i xs) x → ⊥
  before_place [] i x a l q h = omega arith
  before_place (y ∷ ys) zero x a l q h = absurd h
  before_place (y ∷ ys) (suc i) x a l q (inl p) =
      let here : Contains ys (get_or ys i x) = Contains-get_or ys i x (omega arith) in
      a.0 (subst (λ (z : X). Contains ys z) (q ∙ sym p) here)
  before_place (y ∷ ys) (suc i) x a l q (inr h) = before_place ys i x a.1 (omega arith) q h

  pub not_before : (xs : List X) (i : ℕ) (x : X) → AreApart xs → i < length xs → x ≡ get_or xs i x → ¬ Contains (take i xs) x
  not_before xs i x a l q h = before_place xs i x a l (sym q) (has (take i xs) x h)

  pub apart_append : (xs ys : List X) → AreApart xs → AreApart ys → ((x : X) → Contains xs x → Contains ys x → ⊥) → AreApart (xs ++ ys)
  apart_append [] ys a c d = c
  apart_append (x ∷ xs) ys a c d = (
    λ h. elim (Contains-append_cases xs ys x h) [ inl k ↦ a.0 k | inr k ↦ d x (contains (x ∷ xs) x (inl refl)) k ],
    apart_append xs ys a.1 c (λ y h k. d y (contains (x ∷ xs) y (inr (has xs y h))) k),
  )

  -- what passes a test
  has_filter : (test : X → Bool) (xs : List X) (x : X) → Has (filter test xs) x → Has xs x × (test x ≡ true)
  has_filter test [] x h = absurd h
  has_filter test (y ∷ ys) x h = by (test y) refl h (has_filter test ys x)
    where
      by : (b : Bool) → test y ≡ b → Has (filter test (y ∷ ys)) x → (Has (filter test ys) x → Has ys x × (test x ≡ true)) → Has (y ∷ ys) x × (test x ≡ true)
      by true t h rest = elim (let k : Has (y ∷ filter test ys) x = rw t at h in k) [ inl q ↦ (inl q, ap test (sym q) ∙ t) | inr k ↦ (let r = rest k in (inr r.0, r.1)) ]
      by false t h rest = let r = rest (rw t at h) in (inr r.0, r.1)

  filter_has : (test : X → Bool) (xs : List X) (x : X) → Has xs x → test x ≡ true → Has (filter test xs) x
  filter_has test [] x h t = absurd h
  filter_has test (y ∷ ys) x h t = by (test y) refl h (λ k. filter_has test ys x k t)
    where
      by : (b : Bool) → test y ≡ b → Has (y ∷ ys) x → (Has ys x → Has (filter test ys) x) → Has (filter test (y ∷ ys)) x
      by true s (inl q) rest = rw s (inl q)
      by true s (inr k) rest = rw s (inr (rest k))
      by false s (inl q) rest = absurd (let e : false ≡ true = sym s ∙ (ap test q ∙ t) in cc)
      by false s (inr k) rest = rw s (rest k)

  pub contains_filter : (test : X → Bool) (xs : List X) (x : X) → Contains (filter test xs) x → Contains xs x × (test x ≡ true)
  contains_filter test xs x h = let r = has_filter test xs x (has (filter test xs) x h) in (contains xs x r.0, r.1)

  pub filter_contains : (test : X → Bool) (xs : List X) (x : X) → Contains xs x → test x ≡ true → Contains (filter test xs) x
  filter_contains test xs x h t = contains (filter test xs) x (filter_has test xs x (has xs x h) t)

  pub apart_filter : (test : X → Bool) (xs : List X) → AreApart xs → AreApart (filter test xs)
  apart_filter test [] a = tt
  apart_filter test (y ∷ ys) a = by (test y) refl (apart_filter test ys a.1)
    where
      by : (b : Bool) → test y ≡ b → AreApart (filter test ys) → AreApart (filter test (y ∷ ys))
      by true t rest = rw t ((λ h. a.0 (contains_filter test ys y h).0), rest)
      by false t rest = rw t rest

-- the lists of some things, one after the other
module _ {X Y : Type 0} (f : X → List Y) where
  pub record StandsIn (xs : List X) (y : Y) : Type 0 where
    pub place : ℕ
    pub item : X
    pub at : slice_get xs place ≡ Some item
    pub in_item : Contains (f item) y

  pub from_flat_map : (xs : List X) (y : Y) → Contains (flat_map f xs) y → StandsIn xs y
  from_flat_map [] y h = absurd (has [] y h)
  from_flat_map (x ∷ xs) y h = elim (Contains-append_cases (f x) (flat_map f xs) y h) [
    | inl k ↦ record { place = 0; item = x; at = refl; in_item = k }
    | inr k ↦ (let r = from_flat_map xs y k in record { place = suc r.place; item = r.item; at = r.at; in_item = r.in_item })
  ]

  pub in_flat_map : (xs : List X) (i : ℕ) (x : X) (y : Y) → slice_get xs i ≡ Some x → Contains (f x) y → Contains (flat_map f xs) y
  in_flat_map [] i x y q h = absurd (cc)
  in_flat_map (z ∷ zs) zero x y q h = Contains-append_left (f z) (flat_map f zs) y (let one : ◌≡◌ {A = Option X} (Some z) (Some x) = q in let is : z ≡ x = cc in subst (λ (w : X). Contains (f w) y) (sym is) h)
  in_flat_map (z ∷ zs) (suc i) x y q h = Contains-append_right (f z) (flat_map f zs) y (in_flat_map zs i x y q h)

  pub apart_flat_map : (xs : List X) → ((i : ℕ) (x : X) → slice_get xs i ≡ Some x → AreApart (f x)) → ((i j : ℕ) (x z : X) (y : Y) → slice_get xs i ≡ Some x → slice_get xs j ≡ Some z → Contains (f x) y → Contains (f z) y → i ≡ j) → AreApart (flat_map f xs)
  apart_flat_map [] a d = tt
  apart_flat_map (x ∷ xs) a d = apart_append (f x) (flat_map f xs) (a 0 x refl)
      (apart_flat_map xs (λ i z q. a (suc i) z q) (λ i j z v y p q h k. let s = d (suc i) (suc j) z v y p q h k in omega (arith, s)))
      (λ y h k. let r = from_flat_map xs y k in let s = d 0 (suc r.place) x r.item y refl r.at h r.in_item in omega (arith, s))
