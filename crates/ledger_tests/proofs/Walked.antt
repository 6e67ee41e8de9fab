-- What walks over plain lists find.
use Rattle.std.proofs.Common.{◌≡◌, ℕ, ◌+◌, ◌<◌, List, [], ◌∷◌, ◌++◌, length, map, take, get_or, sym, ◌∙◌, ap, subst, inl, inr}
use Rattle.std.specs.Prelude.{Option}
use Rattle.std.specs.List.{Contains}
use Rattle.std.proofs.lemmas.List.Elements.{Contains-append_left, Contains-push, Contains-push_cases}
use Rattle.po_base.specs.declared.numbers.FileNo.{FileNo}
use Rattle.po_core.specs.Book.{Book, file_of_obl}
use Rattle.po_core.specs.Core.{AreApart}
use Rattle.po_lists.proofs.Members.{has}
use Rattle.po_core.specs.declared.event.Hand.{Hand}
use Rattle.po_core.specs.declared.event.Mark.{Mark}
use Rattle.po_core.specs.declared.event.Mark.TheVariants.{Untaken}
use Rattle.po_core.specs.declared.obl.Obl.{Obl}
use Rattle.po_ledger.specs.Parts.{HasKey, HandAt, TakesFrom}
use Rattle.po_ledger.proofs.Lists.{front_cases, front_last, front_more, key_once, read_in}
use Rattle.ledger_tests.specs.Walks.{NoneTakeable, PushesUntaken}
use Rattle.po_marks.proofs.Marked.{apart_push, take_read}

-- what isn't found up to a place, nor at it
pub not_yet : {X : Type 0} (xs : List X) (i : ℕ) (e x : X) → i < length xs → e ≡ get_or xs i e → ¬ Contains (take i xs) x → ¬ (e ≡ x) → ¬ Contains (take (i + 1) xs) x
not_yet xs i e x l q none other h = elim (front_cases xs i e x l q h) [ inl k ↦ none k | inr k ↦ other k ]

-- what is found at a place
pub found_here : {X : Type 0} (xs : List X) (i : ℕ) (e x : X) → i < length xs → e ≡ get_or xs i e → e ≡ x → Contains xs x
found_here {X} xs i e x l q same = subst (λ (z : X). Contains xs z) same (read_in xs i e l q)

pub key_here : {P N : Type 0} (marks : List (Obl P × Mark P N)) (i : ℕ) (e : Obl P × Mark P N) (o : Obl P) → i < length marks → e ≡ get_or marks i e → e.0 ≡ o → HasKey marks o
key_here {P} {N} marks i e o l q same = (e.1, subst (λ (z : Obl P). Contains marks (z, e.1)) same (read_in marks i e l q))

pub key_more : {P N : Type 0} (marks : List (Obl P × Mark P N)) (i : ℕ) (e : Obl P × Mark P N) (o : Obl P) → i < length marks → e ≡ get_or marks i e → (HasKey (take i marks) o → ⊥) → (e.0 ≡ o → ⊥) → HasKey (take (i + 1) marks) o → ⊥
key_more {P} {N} marks i e o l q none other h =
    let here : Contains (take i marks ++ e ∷ []) (o, h.0) = subst (λ (z : List (Obl P × Mark P N)). Contains z (o, h.0)) (take_read marks i e l q) h.1 in
    elim (Contains-push_cases (take i marks) e (o, h.0) here) [ inl x ↦ none (h.0, x) | inr x ↦ other (ap (λ (z : Obl P × Mark P N). z.0) x) ]

module _ {P N T : Type 0} (b : Book P N T) where
  pub none_more : (marks : List (Obl P × Mark P N)) (hands : List (Option (Hand P))) (i : ℕ) (e : Obl P × Mark P N) → i < length marks → e ≡ get_or marks i e → NoneTakeable b (take i marks) hands → (e.1 ≡ Untaken → HandAt hands (file_of_obl b e.0)) → NoneTakeable b (take (i + 1) marks) hands
  none_more marks hands i e l q none here o h = elim (front_cases marks i e (o, Untaken) l q h) [
    | inl k ↦ none o k
    | inr k ↦ subst (λ (z : Obl P). HandAt hands (file_of_obl b z)) (ap (λ (z : Obl P × Mark P N). z.0) k) (here (ap (λ (z : Obl P × Mark P N). z.1) k))
  ]

  pub takes_none : (marks : List (Obl P × Mark P N)) (file : FileNo) → TakesFrom b (take 0 marks) file []
  takes_none marks file = record { all = λ o. (λ h. absurd (has [] o h), λ h. absurd (has [] (o, Untaken) h.0)); once = tt }

  pub takes_more : (marks : List (Obl P × Mark P N)) (file : FileNo) (i : ℕ) (e : Obl P × Mark P N) (items new : List (Obl P)) → AreApart (map (λ x. x.0) marks) → i < length marks → e ≡ get_or marks i e → TakesFrom b (take i marks) file items → PushesUntaken b file e items new → TakesFrom b (take (i + 1) marks) file new
  takes_more marks file i e items new a l q t (inl p) =
      let is : Obl P → Type 0 = λ o. Contains new o in
      let entry : (o : Obl P) → e.0 ≡ o → ◌≡◌ {A = Obl P × Mark P N} e (o, Untaken) = λ o k. ap (λ (z : Mark P N). let y : Obl P × Mark P N = (e.0, z) in y) p.0.0 ∙ ap (λ (z : Obl P). let y : Obl P × Mark P N = (z, Untaken) in y) k in
      record {
        all = λ o. (
          λ h. elim (Contains-push_cases items e.0 o (subst (λ (z : List (Obl P)). Contains z o) p.1 h)) [
            | inl k ↦ (let x = (t.all o).0 k in (front_more marks i e (o, Untaken) l q x.0, x.1))
            | inr k ↦ (subst (λ (z : Obl P × Mark P N). Contains (take (i + 1) marks) z) (entry o k) (front_last marks i e l q), subst (λ (z : Obl P). file_of_obl b z ≡ file) k p.0.1)
          ],
          λ h. subst (λ (z : List (Obl P)). Contains z o) (sym p.1) (elim (front_cases marks i e (o, Untaken) l q h.0) [
            | inl k ↦ Contains-append_left items (e.0 ∷ []) o ((t.all o).1 (k, h.1))
            | inr k ↦ subst (λ (z : Obl P). Contains (items ++ e.0 ∷ []) z) (ap (λ (z : Obl P × Mark P N). z.0) k) (Contains-push items e.0)
          ]),
        );
        once = subst (λ (z : List (Obl P)). AreApart z) (sym p.1) (apart_push items e.0 t.once (λ h. key_once marks i e a l q Untaken (has _ _ ((t.all e.0).0 h).0)));
      }
  takes_more marks file i e items new a l q t (inr p) = record {
    all = λ o. (
      λ h. let x = (t.all o).0 (subst (λ (z : List (Obl P)). Contains z o) p.1 h) in (front_more marks i e (o, Untaken) l q x.0, x.1),
      λ h. subst (λ (z : List (Obl P)). Contains z o) (sym p.1) (elim (front_cases marks i e (o, Untaken) l q h.0) [
        | inl k ↦ (t.all o).1 (k, h.1)
        | inr k ↦ absurd (p.0 (ap (λ (z : Obl P × Mark P N). z.1) k, subst (λ (z : Obl P). file_of_obl b z ≡ file) (sym (ap (λ (z : Obl P × Mark P N). z.0) k)) h.1))
      ]),
    );
    once = subst (λ (z : List (Obl P)). AreApart z) (sym p.1) t.once;
  }
