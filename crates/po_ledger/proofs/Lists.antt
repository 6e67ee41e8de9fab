-- Marks in a list.
use Rattle.std.proofs.Common.{◌≡◌, ◌⊎◌, ℕ, ◌+◌, ◌<◌, List, [], ◌∷◌, ◌++◌, length, map, take, get_or, refl, sym, ◌∙◌, ap, subst, inl, inr, arith, zero, suc}
use Rattle.std.specs.List.{Contains}
use Rattle.std.proofs.lemmas.List.Elements.{Contains-push_cases}
use Rattle.po_lists.proofs.Members.{Has}
use Rattle.po_core.specs.Core.{AreApart}
use Rattle.po_core.specs.declared.event.Mark.{Mark}
use Rattle.po_core.specs.declared.obl.Obl.{Obl}
use Rattle.std.specs.Prelude.{Option, Some, None, slice_get, IsSome, true, false}
use Rattle.std.proofs.lemmas.Option.{slice_get_read}
use Rattle.std.proofs.lemmas.Bool.{cases_eq}
use Rattle.std.proofs.lemmas.List.Elements.{Contains-push, Contains-append_left}
use Rattle.po_base.specs.declared.numbers.FileNo.{FileNo}
use Rattle.po_core.specs.declared.event.Hand.{Hand}
use Rattle.po_ledger.specs.Parts.{HandAt}
use Rattle.po_marks.proofs.Marked.{take_read, mark_of_key}

pub both_along : {X Y : Type 0} (Q : X → Y → Type 0) {x z : X} {y w : Y} → x ≡ z → y ≡ w → Q x y → Q z w
both_along Q {z = z} {y = y} p q h = subst (λ v. Q z v) q (subst (λ v. Q v y) p h)

-- an item read at a place is in the list
pub read_in : {X : Type 0} (xs : List X) (i : ℕ) (x : X) → i < length xs → x ≡ get_or xs i x → Contains xs x
read_in xs i x l q = (i, l, sym q)

-- the front up to one more item
pub front_cases : {X : Type 0} (xs : List X) (i : ℕ) (e x : X) → i < length xs → e ≡ get_or xs i e → Contains (take (i + 1) xs) x → Contains (take i xs) x ⊎ (e ≡ x)
front_cases {X} xs i e x l q h = Contains-push_cases (take i xs) e x (subst (λ (z : List X). Contains z x) (take_read xs i e l q) h)

pub front_last : {X : Type 0} (xs : List X) (i : ℕ) (e : X) → i < length xs → e ≡ get_or xs i e → Contains (take (i + 1) xs) e
front_last {X} xs i e l q = subst (λ (z : List X). Contains z e) (sym (take_read xs i e l q)) (Contains-push (take i xs) e)

pub front_more : {X : Type 0} (xs : List X) (i : ℕ) (e x : X) → i < length xs → e ≡ get_or xs i e → Contains (take i xs) x → Contains (take (i + 1) xs) x
front_more {X} xs i e x l q h = subst (λ (z : List X). Contains z x) (sym (take_read xs i e l q)) (Contains-append_left (take i xs) (e ∷ []) x h)

-- a key stands at one place
pub key_once : {P N : Type 0} (marks : List (Obl P × Mark P N)) (i : ℕ) (e : Obl P × Mark P N) → AreApart (map (λ x. x.0) marks) → i < length marks → e ≡ get_or marks i e → (m : Mark P N) → Has (take i marks) (e.0, m) → ⊥
key_once [] i e a l q m h = absurd (omega arith)
key_once (x ∷ xs) zero e a l q m h = h
key_once {P} {N} (x ∷ xs) (suc i) e a l q m h =
    let later : i < length xs = omega arith in
    elim h [
      | inl k ↦ a.0 (mark_of_key xs x.0 (e.1, subst (λ (z : Obl P). Contains xs (z, e.1)) (ap (λ (z : Obl P × Mark P N). z.0) (sym k)) (read_in xs i e later q)))
      | inr k ↦ key_once xs i e a.1 later q m k
    ]

-- hands up to one more place
pub no_hand_more : {P : Type 0} (hands : List (Option (Hand P))) (i : ℕ) (e : Option (Hand P)) → i < length hands → e ≡ get_or hands i e → ((k : ℕ) (hand : Hand P) → k < i → slice_get hands k ≡ Some (Some hand) → ⊥) → (IsSome e → ⊥) → (k : ℕ) (hand : Hand P) → k < i + 1 → slice_get hands k ≡ Some (Some hand) → ⊥
no_hand_more {P} hands i e l q before here k hand lt h = elim (cases_eq k i) [
  | inl same ↦ (
      let at : slice_get hands i ≡ Some e = slice_get_read hands (length hands) i e refl l q in
      let both : ◌≡◌ {A = Option (Option (Hand P))} (Some e) (Some (Some hand)) = sym at ∙ (ap (λ (j : ℕ). slice_get hands j) (sym same) ∙ h) in
      let is : e ≡ Some hand = cc in
      here (rw is refl)
      )
  | inr ne ↦ before k hand (let other : k ≡ i → ⊥ = ne in omega arith) h
]

pub some_of : {X : Type 0} (o : Option X) → IsSome o → (x : X) × (o ≡ Some x)
some_of None h = absurd (let f : false ≡ true = h in cc)
some_of (Some x) h = (x, refl)

pub hand_read : {P : Type 0} (hands : List (Option (Hand P))) (i : ℕ) (e : Option (Hand P)) → i < length hands → e ≡ get_or hands i e → IsSome e → (file : FileNo) × HandAt hands file
hand_read {P} hands i e l q h =
    let x = some_of e h in
    (record { 0 = i }, (x.0, slice_get_read hands (length hands) i e refl l q ∙ ap (λ (z : Option (Hand P)). let y : Option (Option (Hand P)) = Some z in y) x.1))
