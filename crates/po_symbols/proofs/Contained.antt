-- What is among the items of a list.
use Rattle.std.proofs.Common.{◌≡◌, List, [], ◌∷◌, Bool, true, false, refl, sym, ◌∙◌, inl, inr, subst}
use Rattle.std.specs.Prelude.{Some, None, Contains, find}
use Rattle.po_lists.proofs.Members.{contains_none, contains_cases, contains_head, contains_tail}
use Rattle.po_lists.proofs.Booleans.{bool_cases}

pub find_there : {X : Type 0} (p : X → Bool) (xs : List X) (y : X) → find p xs ≡ Some y → Contains xs y × (p y ≡ true)
find_there p [] y h = absurd (cc)
find_there p (x ∷ xs) y h = elim (bool_cases (p x)) [
  | inl t ↦
      let k : Some x ≡ Some y = sym (rw t refl) ∙ h in
      let e : x ≡ y = cc in
      (subst (λ z. Contains (x ∷ xs) z) e (contains_head x xs), subst (λ z. p z ≡ true) e t)
  | inr f ↦
      let k : find p xs ≡ Some y = sym (rw f refl) ∙ h in
      let r = find_there p xs y k in
      (contains_tail x xs y r.0, r.1)
]

pub find_nothing : {X : Type 0} (p : X → Bool) (xs : List X) (y : X) → find p xs ≡ None → Contains xs y → p y ≡ true → ⊥
find_nothing p [] y h c t = contains_none y c
find_nothing p (x ∷ xs) y h c t = elim (bool_cases (p x)) [
  | inl hit ↦ let k : Some x ≡ None = sym (rw hit refl) ∙ h in absurd (cc)
  | inr miss ↦
      let k : find p xs ≡ None = sym (rw miss refl) ∙ h in
      elim (contains_cases x xs y c) [
        | inl e ↦ let f : p y ≡ false = subst (λ z. p z ≡ false) e miss in absurd (cc)
        | inr d ↦ find_nothing p xs y k d t
      ]
]
