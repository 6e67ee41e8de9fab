-- Sets of names, as ascending lists.
use Rattle.std.proofs.Common.{◌≡◌, ℕ, zero, suc, List, [], ◌∷◌, ◌++◌, map, ap, sym, ◌∙◌, refl, subst, arith, true, false, ◌⊎◌, inl, inr, ◌↔◌, append_assoc, append-nil}
use Rattle.std.specs.Prelude.{Contains}
use Rattle.std.specs.List.{list_any}
use Rattle.std.specs.Str.{bytes_eq}
use Rattle.std.proofs.lemmas.Slice.Eq.{bytes_eq-Decides}
use Rattle.std.specs.declared.cmp.Ordering.{Ordering}
use Rattle.std.specs.declared.cmp.Ordering.TheVariants.{Less, Equal, Greater}
use Rattle.std.specs.Ordering.{nat_cmp, match_ordering}
use Rattle.std.specs.Cmp.{eq_by_cmp_equiv}
use Rattle.std.specs.Cmp.Lexicographic.{slice_cmp, nat_list_cmp_total}
use Rattle.std.specs.BTreeMap.{is_at}
use Rattle.std.specs.BTreeSet.{insert_key}
use Rattle.std.proofs.lemmas.Map.Views.{Contains-from_any, list_any-from_Contains}
use Rattle.std.proofs.lemmas.Map.Lookups.{exact_bytes}
use Rattle.std.proofs.lemmas.List.{map_push}
use Rattle.std.proofs.lemmas.List.Elements.{Contains-append_left, Contains-push_cases, Contains-push}
use Rattle.po_tree.specs.NameSets.{Adds, Hides}

tells : (o : Ordering) → is_at {K = ℕ} (λ _. o) 0 ≡ true → o ≡ Equal
tells Less h = cc
tells Equal h = refl
tells Greater h = cc

pub has_iff : (xs : List (List ℕ)) (x : List ℕ) → (list_any (is_at (slice_cmp nat_cmp x)) xs ≡ true) ↔ Contains xs x
has_iff xs x = (
  Contains-from_any (λ a b h. exact_bytes a b (tells (slice_cmp nat_cmp a b) h)) x xs,
  list_any-from_Contains (eq_by_cmp_equiv nat_list_cmp_total) x xs,
)

pub first_or_later : {A : Type 0} (y : A) (ys : List A) (x : A) → Contains (y ∷ ys) x → (y ≡ x) ⊎ Contains ys x
first_or_later y ys x (zero, in', same) = inl same
first_or_later y ys x (suc n, in', same) = inr (n, omega (arith, in'), same)

pub is_first : {A : Type 0} (y : A) (ys : List A) → Contains (y ∷ ys) y
is_first y ys = (0, omega arith, refl)

pub is_later : {A : Type 0} (y : A) (ys : List A) (x : A) → Contains ys x → Contains (y ∷ ys) x
is_later y ys x (n, in', same) = (suc n, omega arith, same)

by_back : (o : Ordering) (k y : List ℕ) (ys rest : List (List ℕ)) (x : List ℕ) → (Contains rest x → Contains ys x ⊎ (k ≡ x)) →
    Contains (match_ordering o (k ∷ y ∷ ys) (y ∷ ys) (y ∷ rest)) x → Contains (y ∷ ys) x ⊎ (k ≡ x)
by_back Less k y ys rest x f h = elim (first_or_later k (y ∷ ys) x h) [ inl q ↦ inr q | inr r ↦ inl r ]
by_back Equal k y ys rest x f h = inl h
by_back Greater k y ys rest x f h = elim (first_or_later y rest x h) [
  | inl q ↦ inl (subst (Contains (y ∷ ys)) q (is_first y ys))
  | inr r ↦ elim (f r) [ inl s ↦ inl (is_later y ys x s) | inr q ↦ inr q ]
]

insert_back : (ks : List (List ℕ)) (k x : List ℕ) → Contains (insert_key (slice_cmp nat_cmp) ks k) x → Contains ks x ⊎ (k ≡ x)
insert_back [] k x h = elim (first_or_later k [] x h) [ inl q ↦ inr q | inr r ↦ inl r ]
insert_back (y ∷ ys) k x h = by_back (slice_cmp nat_cmp k y) k y ys (insert_key (slice_cmp nat_cmp) ys k) x (insert_back ys k x) h

by_old : (o : Ordering) (k y : List ℕ) (ys rest : List (List ℕ)) (x : List ℕ) → (Contains ys x → Contains rest x) → Contains (y ∷ ys) x →
    Contains (match_ordering o (k ∷ y ∷ ys) (y ∷ ys) (y ∷ rest)) x
by_old Less k y ys rest x f h = is_later k (y ∷ ys) x h
by_old Equal k y ys rest x f h = h
by_old Greater k y ys rest x f h = elim (first_or_later y ys x h) [
  | inl q ↦ subst (Contains (y ∷ rest)) q (is_first y rest)
  | inr r ↦ is_later y rest x (f r)
]

insert_old : (ks : List (List ℕ)) (k x : List ℕ) → Contains ks x → Contains (insert_key (slice_cmp nat_cmp) ks k) x
insert_old [] k x h = absurd (let p = h.1 in omega (arith, p))
insert_old (y ∷ ys) k x h = by_old (slice_cmp nat_cmp k y) k y ys (insert_key (slice_cmp nat_cmp) ys k) x (insert_old ys k x) h

by_new : (o : Ordering) (k y : List ℕ) (ys rest : List (List ℕ)) → (o ≡ Equal → k ≡ y) → Contains rest k →
    Contains (match_ordering o (k ∷ y ∷ ys) (y ∷ ys) (y ∷ rest)) k
by_new Less k y ys rest f h = is_first k (y ∷ ys)
by_new Equal k y ys rest f h = subst (Contains (y ∷ ys)) (sym (f refl)) (is_first y ys)
by_new Greater k y ys rest f h = is_later y rest k h

insert_new : (ks : List (List ℕ)) (k : List ℕ) → Contains (insert_key (slice_cmp nat_cmp) ks k) k
insert_new [] k = is_first k []
insert_new (y ∷ ys) k = by_new (slice_cmp nat_cmp k y) k y ys (insert_key (slice_cmp nat_cmp) ys k) (exact_bytes k y) (insert_new ys k)

pub adds_one : (ks : List (List ℕ)) (k : List ℕ) → Adds (λ x. k ≡ x) ks (insert_key (slice_cmp nat_cmp) ks k)
adds_one ks k = record {
  each = λ x. (insert_back ks k x, λ h. elim h [ inl r ↦ insert_old ks k x r | inr q ↦ subst (Contains (insert_key (slice_cmp nat_cmp) ks k)) q (insert_new ks k) ]);
}

pub adds_none : {P : List ℕ → Type 0} (a : List (List ℕ)) → ((x : List ℕ) → P x → ⊥) → Adds P a a
adds_none a none = record { each = λ x. (λ h. inl h, λ h. elim h [ inl r ↦ r | inr p ↦ absurd (none x p) ]) }

pub adds_then : {P Q R : List ℕ → Type 0} {a b c : List (List ℕ)} → Adds P a b → Adds Q b c →
    ((x : List ℕ) → P x → R x) → ((x : List ℕ) → Q x → R x) → ((x : List ℕ) → R x → P x ⊎ Q x) → Adds R a c
adds_then p q left right back = record {
  each = λ x. (
    λ h. elim ((q.each x).0 h) [
      | inl r ↦ elim ((p.each x).0 r) [ inl s ↦ inl s | inr t ↦ inr (left x t) ]
      | inr t ↦ inr (right x t)
    ],
    λ h. elim h [
      | inl r ↦ (q.each x).1 (inl ((p.each x).1 (inl r)))
      | inr t ↦ elim (back x t) [ inl s ↦ (q.each x).1 (inl ((p.each x).1 (inr s))) | inr s ↦ (q.each x).1 (inr s) ]
    ],
  );
}

pub adds_along : {P Q : List ℕ → Type 0} {a b : List (List ℕ)} → ((x : List ℕ) → P x → Q x) → ((x : List ℕ) → Q x → P x) → Adds P a b → Adds Q a b
adds_along f g p = record {
  each = λ x. (
    λ h. elim ((p.each x).0 h) [ inl r ↦ inl r | inr t ↦ inr (f x t) ],
    λ h. elim h [ inl r ↦ (p.each x).1 (inl r) | inr t ↦ (p.each x).1 (inr (g x t)) ],
  );
}

-- names one after the other
pub adds_name : {before now behind : List (List ℕ)} (ks : List (List ℕ)) (k : List ℕ) → Adds (Contains ks) before now → Adds (λ x. k ≡ x) now behind → Adds (Contains (ks ++ k ∷ [])) before behind
adds_name ks k p r = adds_then p r
    (λ x c. Contains-append_left ks (k ∷ []) x c)
    (λ x q. subst (Contains (ks ++ k ∷ [])) q (Contains-push ks k))
    (λ x c. Contains-push_cases ks k x c)

pub none_contained : {A : Type 0} (x : A) → Contains [] x → ⊥
none_contained x c = let q = c.1 in omega (arith, q)

-- names are the same or not
pub same_or : (a b : List ℕ) → (a ≡ b) ⊎ (a ≡ b → ⊥)
same_or a b =
    elim (bytes_eq a b) as (λ v. bytes_eq a b ≡ v → (a ≡ b) ⊎ (a ≡ b → ⊥)) [
      | true ↦ (λ q. inl ((bytes_eq-Decides a b).0 q))
      | false ↦ (λ q. inr (λ e. let bad : true ≡ false = sym ((bytes_eq-Decides a b).1 e) ∙ q in absurd (cc)))
    ] refl

-- a name is in a set or not
pub decide_in : (ys : List (List ℕ)) (x : List ℕ) → Contains ys x ⊎ (Contains ys x → ⊥)
decide_in [] x = inr (λ c. none_contained x c)
decide_in (y ∷ ys) x = elim (same_or y x) [
  | inl q ↦ inl (0, omega arith, q)
  | inr n ↦ elim (decide_in ys x) [ inl c ↦ inl (is_later y ys x c) | inr m ↦ inr (λ c. elim (first_or_later y ys x c) [ inl q ↦ n q | inr r ↦ m r ]) ]
]

-- names one after the other are taken away
pub hides_none : {P : List ℕ → Type 0} (a : List (List ℕ)) → ((x : List ℕ) → P x → ⊥) → Hides P a a
hides_none a none = record { each = λ x. (λ c. (c, none x), λ h. h.0) }

pub hides_name : {before now behind : List (List ℕ)} (ks : List (List ℕ)) (k : List ℕ) → Hides (Contains ks) before now → Hides (λ x. k ≡ x) now behind → Hides (Contains (ks ++ k ∷ [])) before behind
hides_name ks k p r = record {
  each = λ x. (
    λ c. let h = (r.each x).0 c in let g = (p.each x).0 h.0 in (g.0, λ d. elim (Contains-push_cases ks k x d) [ inl e ↦ g.1 e | inr q ↦ h.1 q ]),
    λ h. (r.each x).1 ((p.each x).1 (h.0, λ c. h.1 (Contains-append_left ks (k ∷ []) x c)), λ q. h.1 (subst (Contains (ks ++ k ∷ [])) q (Contains-push ks k))),
  );
}

-- a walk over a list, behind one more of its items
pub walks_on : {A B : Type 0} (f : A → B) (all : List B) (ys : List A) (y : A) (left left' : List B) → all ≡ map f ys ++ left → left ≡ f y ∷ left' → all ≡ map f (ys ++ y ∷ []) ++ left'
walks_on f all ys y left left' q r = q ∙ ap (λ v. map f ys ++ v) r ∙ sym (append_assoc (map f ys) (f y ∷ []) left') ∙ ap (λ v. v ++ left') (sym (map_push f ys y))

pub walked : {A B : Type 0} (f : A → B) (all : List B) (ys : List A) (left : List B) → all ≡ map f ys ++ left → left ≡ [] → map f ys ≡ all
walked f all ys left q r = sym (q ∙ ap (λ v. map f ys ++ v) r ∙ append-nil (map f ys))
