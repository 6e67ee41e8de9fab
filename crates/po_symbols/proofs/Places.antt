-- The first place of a list that passes a test, and lists of what the items of a list have.
use Rattle.std.proofs.Common.{◌≡◌, ℕ, suc, ◌+◌, ◌<◌, ◌≤◌, List, [], ◌∷◌, ◌++◌, Bool, true, false, cond, length, get_or, take, refl, ap, sym, ◌∙◌, arith, inl, inr}
use Rattle.std.specs.Prelude.{Option, Some, None, position, flat_map, find, option_map, nat_lt, bytes_eq, ◌&&◌}
use Rattle.std.specs.List.{position_or_len, list_any}
use Rattle.std.specs.Option.{option_or, is_some}
use Rattle.std.proofs.lemmas.List.Folds.{find-append}
use Rattle.std.proofs.lemmas.List.Concat.{flat_map-append}
use Rattle.std.proofs.lemmas.List.{append-nil, take_more}
use Rattle.std.proofs.lemmas.Slice.Eq.{bytes_eq-Decides}
use Rattle.std.proofs.lemmas.Bool.{ltb-true, ltb-false, lt-ltb, le-ltb}
use Rattle.po_lists.proofs.Booleans.{bool_cases}
use Rattle.po_lists.proofs.Options.{option_cases}

position-yes : {X : Type 0} (p : X → Bool) (x : X) (xs : List X) → p x ≡ true → position p (x ∷ xs) ≡ Some 0
position-yes p x xs h = let below : nat_lt 0 (suc (length xs)) ≡ true = lt-ltb 0 (suc (length xs)) (omega arith) in rw (h, below) refl

position-no : {X : Type 0} (p : X → Bool) (x : X) (xs : List X) → p x ≡ false → position p (x ∷ xs) ≡ option_map suc (position p xs)
position-no p x xs h =
    let e : 1 + position_or_len p xs ≡ suc (position_or_len p xs) = omega arith in
    elim (bool_cases (nat_lt (position_or_len p xs) (length xs))) [
      | inl t ↦
          let inside : position_or_len p xs < length xs = ltb-true _ _ t in
          let next : nat_lt (suc (position_or_len p xs)) (suc (length xs)) ≡ true = lt-ltb _ _ (omega arith) in
          rw (h, e, next, t) refl
      | inr f ↦
          let past : length xs ≤ position_or_len p xs = ltb-false _ _ f in
          let next : nat_lt (suc (position_or_len p xs)) (suc (length xs)) ≡ false = le-ltb _ _ (omega arith) in
          rw (h, e, next, f) refl
    ]

suc_or : (o r : Option ℕ) → option_map suc (option_or o r) ≡ option_or (option_map suc o) (option_map suc r)
suc_or None r = refl
suc_or (Some n) r = refl

suc_cond : (b : Bool) (n : ℕ) → option_map suc (cond b (Some n) None) ≡ cond b (Some (suc n)) None
suc_cond true n = refl
suc_cond false n = refl

-- one more item
pub position-push : {X : Type 0} (p : X → Bool) (xs : List X) (y : X) → position p (xs ++ y ∷ []) ≡ option_or (position p xs) (cond (p y) (Some (length xs)) None)
position-push p [] y = elim (bool_cases (p y)) [
  | inl t ↦ position-yes p y [] t ∙ rw t refl
  | inr f ↦ position-no p y [] f ∙ rw f refl
]
position-push p (x ∷ xs) y = elim (bool_cases (p x)) [
  | inl t ↦ position-yes p x (xs ++ y ∷ []) t ∙ ap (λ o. option_or o (cond (p y) (Some (suc (length xs))) None)) (sym (position-yes p x xs t))
  | inr f ↦
      position-no p x (xs ++ y ∷ []) f ∙ ap (option_map suc) (position-push p xs y) ∙ suc_or (position p xs) (cond (p y) (Some (length xs)) None)
      ∙ ap (λ o. option_or (option_map suc (position p xs)) o) (suc_cond (p y) (length xs))
      ∙ ap (λ o. option_or o (cond (p y) (Some (suc (length xs))) None)) (sym (position-no p x xs f))
]

pub find-push : {X : Type 0} (p : X → Bool) (xs : List X) (y : X) → find p (xs ++ y ∷ []) ≡ option_or (find p xs) (cond (p y) (Some y) None)
find-push p xs y = find-append p xs (y ∷ [])

pub flat_map-more : {X A : Type 0} (f : X → List A) (xs : List X) (i : ℕ) (d : X) → i < length xs → flat_map f (take (i + 1) xs) ≡ flat_map f (take i xs) ++ f (get_or xs i d)
flat_map-more f xs i d h = ap (flat_map f) (take_more xs i d h) ∙ flat_map-append f (take i xs) (get_or xs i d ∷ []) ∙ ap (λ z. flat_map f (take i xs) ++ z) (append-nil (f (get_or xs i d)))

pub position-front : {X : Type 0} (p : X → Bool) (xs ys : List X) (i : ℕ) → position p xs ≡ Some i → position p (xs ++ ys) ≡ Some i
position-front p [] ys i h = absurd (cc)
position-front p (x ∷ xs) ys i h = elim (bool_cases (p x)) [
  | inl t ↦ position-yes p x (xs ++ ys) t ∙ sym (position-yes p x xs t) ∙ h
  | inr f ↦
      elim (option_cases (position p xs)) [
        | inl none ↦ absurd (let e = sym (position-no p x xs f) ∙ h in let m = ap (option_map suc) none in cc)
        | inr s ↦ position-no p x (xs ++ ys) f ∙ ap (option_map suc) (position-front p xs ys s.0 s.1 ∙ sym s.1) ∙ sym (position-no p x xs f) ∙ h
      ]
]

pub any_place : {X : Type 0} (p : X → Bool) (xs : List X) → list_any p xs ≡ is_some (position p xs)
any_place p [] = refl
any_place p (x ∷ xs) = elim (bool_cases (p x)) [
  | inl t ↦ rw t refl ∙ ap is_some (sym (position-yes p x xs t))
  | inr f ↦ rw f (any_place p xs) ∙ some_suc (position p xs) ∙ ap is_some (sym (position-no p x xs f))
]
  where
    some_suc : (o : Option ℕ) → is_some o ≡ is_some (option_map suc o)
    some_suc None = refl
    some_suc (Some n) = refl

pub bytes_same : (xs ys : List ℕ) → bytes_eq xs ys ≡ true → xs ≡ ys
bytes_same xs ys h = (bytes_eq-Decides xs ys).0 h

pub same_bytes : (xs : List ℕ) → bytes_eq xs xs ≡ true
same_bytes xs = (bytes_eq-Decides xs xs).1 refl

pub and_right : (a b : Bool) → (a && b) ≡ true → b ≡ true
and_right true b h = h
and_right false b h = absurd (cc)

pub mapped : (f : ℕ → ℕ) (o : Option ℕ) (b : Bool) (n : ℕ) → option_map f (option_or o (cond b (Some n) None)) ≡ option_or (option_map f o) (cond b (Some (f n)) None)
mapped f None true n = refl
mapped f None false n = refl
mapped f (Some m) b n = refl
