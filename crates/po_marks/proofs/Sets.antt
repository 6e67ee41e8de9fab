-- Marks that are set, of one obligation after the other.
use Rattle.std.proofs.Common.{◌≡◌, ℕ, ◌+◌, ◌<◌, List, [], ◌∷◌, ◌++◌, length, map, take, get_or, refl, sym, ◌∙◌, ap, subst, inl, inr}
use Rattle.std.specs.Prelude.{◌↔◌, Bool, true, false, IsTrue, filter}
use Rattle.std.specs.List.{Contains}
use Rattle.std.proofs.lemmas.Bool.{false≢true}
use Rattle.std.proofs.lemmas.List.Elements.{Contains-push_cases, Contains-push, Contains-append_left, Contains-get_or}
use Rattle.po_core.specs.Core.{AreApart}
use Rattle.po_core.specs.Decided.{IsDecided}
use Rattle.po_lists.proofs.Members.{Has, has, contains}
use Rattle.po_core.specs.Marks.{taken_decided}
use Rattle.po_core.specs.declared.event.Mark.{Mark}
use Rattle.po_core.specs.declared.event.Mark.TheVariants.{Taken}
use Rattle.po_core.specs.declared.obl.Obl.{Obl}
use Rattle.po_marks.specs.Known.{AreRemarked, HasKey, SetsEach, SetsMark}
use Rattle.po_marks.proofs.Apart.{apart_filter, contains_filter, filter_contains, not_before}
use Rattle.po_marks.proofs.Marked.{one_mark, take_read}

module _ {P N : Type 0} where
  pub sets_none : (mark : Mark P N) (old : List (Obl P × Mark P N)) → SetsEach [] mark old old
  sets_none mark old = record { keys = refl; marks = λ p m. (λ h. inr (λ c. has [] p c, h), λ h. elim h [ inl x ↦ absurd (has [] p x.0) | inr x ↦ x.1 ]) }

  sets_push : (os : List (Obl P)) (o : Obl P) (mark : Mark P N) (old mid new : List (Obl P × Mark P N)) → ¬ Contains os o → SetsEach os mark old mid → SetsMark o mark mid new → SetsEach (os ++ o ∷ []) mark old new
  sets_push os o mark old mid new other r s = record {
    keys = s.keys ∙ r.keys;
    marks = λ p m. (
      λ h. elim ((s.marks p m).0 h) [
        | inl x ↦ inl (subst (λ (z : Obl P). Contains (os ++ o ∷ []) z) (sym x.0) (Contains-push os o), x.1)
        | inr x ↦ elim ((r.marks p m).0 x.1) [
          | inl y ↦ inl (Contains-append_left os (o ∷ []) p y.0, y.1)
          | inr y ↦ inr (λ c. elim (Contains-push_cases os o p c) [ inl z ↦ y.0 z | inr z ↦ x.0 (sym z) ], y.1)
        ]
      ],
      λ h. (s.marks p m).1 (elim h [
        | inl x ↦ elim (Contains-push_cases os o p x.0) [
          | inl y ↦ inr (λ q. other (subst (λ (z : Obl P). Contains os z) q y), (r.marks p m).1 (inl (y, x.1)))
          | inr y ↦ inl (sym y, x.1)
        ]
        | inr x ↦ inr (λ q. x.0 (subst (λ (z : Obl P). Contains (os ++ o ∷ []) z) (sym q) (Contains-push os o)), (r.marks p m).1 (inr (λ c. x.0 (Contains-append_left os (o ∷ []) p c), x.1)))
      ]),
    );
  }

  pub sets_more : (os : List (Obl P)) (i : ℕ) (o : Obl P) (mark : Mark P N) (old mid new : List (Obl P × Mark P N)) → AreApart os → i < length os → o ≡ get_or os i o → SetsEach (take i os) mark old mid → SetsMark o mark mid new → SetsEach (take (i + 1) os) mark old new
  sets_more os i o mark old mid new a l q r s = subst (λ (z : List (Obl P)). SetsEach z mark old new) (sym (take_read os i o l q)) (sets_push (take i os) o mark old mid new (not_before os i o a l q) r s)

  -- the next one is known
  pub next_known : (os : List (Obl P)) (i : ℕ) (o : Obl P) (old : List (Obl P × Mark P N)) → i < length os → o ≡ get_or os i o → ((p : Obl P) → Contains os p → HasKey old p) → HasKey old o
  next_known os i o old l q known = known o (subst (λ (z : Obl P). Contains os z) (sym q) (Contains-get_or os i o l))

  -- those that have one mark, of the obligations that are meant, have another
  pub sets_remark : (W : Obl P → Type 0) (from to : Mark P N) (items : List (Obl P)) (old new : List (Obl P × Mark P N)) → AreApart (map (λ e. e.0) old) → ((o : Obl P) → Contains items o ↔ (Contains old (o, from) × W o)) → SetsEach items to old new → AreRemarked W from to old new
  sets_remark W from to items old new a all s = record {
    keys = s.keys;
    marks = λ o m. (
      λ h. elim ((s.marks o m).0 h) [
        | inl x ↦ (let y = (all o).0 x.0 in inl (x.1, y.0, y.1))
        | inr x ↦ inr (x.1, λ y. x.0 ((all o).1 (subst (λ (z : Mark P N). Contains old (o, z)) y.0 x.1, y.1)))
      ],
      λ h. (s.marks o m).1 (elim h [
        | inl x ↦ inl ((all o).1 (x.1, x.2), x.0)
        | inr x ↦ inr (λ c. let y = (all o).0 c in x.1 (one_mark old a o m from x.0 y.0, y.1), x.0)
      ]),
    );
  }

-- which of some obligations are taken, as a test
module _ {P N : Type 0} (decided : (o p : Obl P) → IsDecided (o ≡ p)) where
  has_taken : (es : List (Obl P × Mark P N)) (o : Obl P) → IsDecided (Has es (o, Taken))
  has_taken [] o = inr (λ h. h)
  has_taken (e ∷ es) o = elim (has_taken es o) [
    | inl h ↦ inl (inr h)
    | inr h ↦ elim (decided e.0 o) [
      | inl p ↦ elim (taken_decided e.1) [
        | inl q ↦ inl (inl (λ i. (p i, q i)))
        | inr q ↦ inr (λ k. elim k [ inl r ↦ q (ap (λ (z : Obl P × Mark P N). z.1) r) | inr r ↦ h r ])
      ]
      | inr p ↦ inr (λ k. elim k [ inl r ↦ p (ap (λ (z : Obl P × Mark P N). z.0) r) | inr r ↦ h r ])
    ]
  ]

  pub test_taken : List (Obl P × Mark P N) → Obl P → Bool
  test_taken es o = elim (has_taken es o) [ inl h ↦ true | inr h ↦ false ]

  pub test_tells : (es : List (Obl P × Mark P N)) (o : Obl P) → IsTrue (test_taken es o) ↔ Contains es (o, Taken)
  unfolding test_taken
  test_tells es o = elim (has_taken es o) as (λ d. IsTrue (elim d [ inl h ↦ true | inr h ↦ false ]) ↔ Contains es (o, Taken)) [
    | inl h ↦ (λ t. contains es (o, Taken) h, λ c. refl)
    | inr h ↦ (λ t. absurd (false≢true t), λ c. absurd (h (has es (o, Taken) c)))
  ]

same_answer : (a b : Bool) {Q : Type 0} → IsTrue a ↔ Q → IsTrue b ↔ Q → a ≡ b
same_answer true true h k = refl
same_answer true false h k = sym (k.1 (h.0 refl))
same_answer false true h k = h.1 (k.0 refl)
same_answer false false h k = refl

pub answers_test : {P N : Type 0} (decided : (o p : Obl P) → IsDecided (o ≡ p)) (es : List (Obl P × Mark P N)) (o : Obl P) (r : Bool) → IsTrue r ↔ Contains es (o, Taken) → r ≡ test_taken decided es o
answers_test decided es o r h = same_answer r (test_taken decided es o) h (test_tells decided es o)

module _ {P N : Type 0} (decided : (o p : Obl P) → IsDecided (o ≡ p)) (es : List (Obl P × Mark P N)) (items left : List (Obl P)) (is : left ≡ filter (test_taken decided es) items) where
  pub left_taken : (o : Obl P) → Contains left o ↔ (Contains items o × Contains es (o, Taken))
  left_taken o = (
    λ h. let x = contains_filter (test_taken decided es) items o (subst (λ (z : List (Obl P)). Contains z o) is h) in (x.0, (test_tells decided es o).0 x.1),
    λ h. subst (λ (z : List (Obl P)). Contains z o) (sym is) (filter_contains (test_taken decided es) items o h.0 ((test_tells decided es o).1 h.1)),
  )

  pub left_apart : AreApart items → AreApart left
  left_apart a = subst (λ (z : List (Obl P)). AreApart z) (sym is) (apart_filter (test_taken decided es) items a)
