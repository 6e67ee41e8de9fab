-- Obligations that are made known, one after the other.
use Rattle.std.proofs.Common.{◌≡◌, ℕ, ◌+◌, ◌<◌, List, [], ◌∷◌, ◌++◌, length, map, take, get_or, sym, ◌∙◌, ap, subst, inl, inr, append_assoc}
use Rattle.std.specs.List.{Contains}
use Rattle.std.proofs.lemmas.List.{append-nil, map-append, take_more}
use Rattle.std.proofs.lemmas.List.Elements.{Contains-push_cases, Contains-push, Contains-append_left, Contains-append_right, Contains-append_cases}
use Rattle.po_lists.proofs.Members.{has}
use Rattle.po_core.specs.Core.{AreApart}
use Rattle.po_core.specs.declared.event.Mark.{Mark}
use Rattle.po_core.specs.declared.event.Mark.TheVariants.{Untaken}
use Rattle.po_core.specs.declared.obl.Obl.{Obl}
use Rattle.po_marks.specs.Known.{HasKey, AddsUntaken, AddsEach}
use Rattle.po_marks.proofs.Marked.{key_of_mark, apart_push}

pub adds_none : {P N : Type 0} (marks : List (Obl P × Mark P N)) → AddsEach [] marks marks
adds_none marks = record {
  more = [];
  extends = sym (append-nil marks);
  there = λ o h. absurd (has [] o h);
  fresh = λ o m h. absurd (has [] (o, m) h);
  apart = λ a. a;
}

same_parts : {P N : Type 0} (o p : Obl P) (m n : Mark P N) → ◌≡◌ {A = Obl P × Mark P N} (o, m) (p, n) → (o ≡ p) × (m ≡ n)
same_parts {P} {N} o p m n q = (ap (λ (z : Obl P × Mark P N). z.0) q, ap (λ (z : Obl P × Mark P N). z.1) q)

module _ {P N : Type 0} where
  old_key : (os : List (Obl P)) (old new : List (Obl P × Mark P N)) → AddsEach os old new → (o : Obl P) → HasKey old o → HasKey new o
  old_key os old new a o h = (h.0, subst (λ (z : List (Obl P × Mark P N)). Contains z (o, h.0)) (sym a.extends) (Contains-append_left old a.more (o, h.0) h.1))

  adds_new : (os : List (Obl P)) (old mid new : List (Obl P × Mark P N)) (o : Obl P) → AddsEach os old mid → ¬ HasKey mid o → new ≡ mid ++ (o, Untaken) ∷ [] → AddsEach (os ++ o ∷ []) old new
  adds_new os old mid new o a fresh is =
      let one : Obl P × Mark P N = (o, Untaken) in
      record {
        more = a.more ++ one ∷ [];
        extends = is ∙ (ap (λ (z : List (Obl P × Mark P N)). z ++ one ∷ []) a.extends ∙ append_assoc old a.more (one ∷ []));
        there = λ p h. elim (Contains-push_cases os o p h) [
          | inl k ↦ (let x = a.there p k in (x.0, subst (λ (z : List (Obl P × Mark P N)). Contains z (p, x.0)) (sym is) (Contains-append_left mid (one ∷ []) (p, x.0) x.1)))
          | inr q ↦ (Untaken, subst (λ (z : Obl P). Contains new (z, Untaken)) q (subst (λ (z : List (Obl P × Mark P N)). Contains z one) (sym is) (Contains-push mid one)))
        ];
        fresh = λ p m h. elim (Contains-push_cases a.more one (p, m) h) [
          | inl k ↦ (let x = a.fresh p m k in (x.0, Contains-append_left os (o ∷ []) p x.1, x.2))
          | inr q ↦ (let x = same_parts o p Untaken m q in (
            sym x.1,
            subst (λ (z : Obl P). Contains (os ++ o ∷ []) z) x.0 (Contains-push os o),
            λ k. fresh (subst (λ (z : Obl P). HasKey mid z) (sym x.0) (old_key os old mid a p k)),
          ))
        ];
        apart = λ k.
            let keys : (Obl P × Mark P N) → Obl P = λ e. e.0 in
            let is_keys : map keys new ≡ map keys mid ++ o ∷ [] = ap (map keys) is ∙ map-append keys mid (one ∷ []) in
            subst (λ (z : List (Obl P)). AreApart z) (sym is_keys) (apart_push (map keys mid) o (a.apart k) (λ h. fresh (key_of_mark mid o h)));
      }

  adds_known : (os : List (Obl P)) (old mid new : List (Obl P × Mark P N)) (o : Obl P) → AddsEach os old mid → HasKey mid o → new ≡ mid → AddsEach (os ++ o ∷ []) old new
  adds_known os old mid new o a known is = record {
    more = a.more;
    extends = is ∙ a.extends;
    there = λ p h. elim (Contains-push_cases os o p h) [
      | inl k ↦ subst (λ (z : List (Obl P × Mark P N)). HasKey z p) (sym is) (a.there p k)
      | inr q ↦ subst (λ (z : List (Obl P × Mark P N)). HasKey z p) (sym is) (subst (λ (z : Obl P). HasKey mid z) q known)
    ];
    fresh = λ p m h. let x = a.fresh p m h in (x.0, Contains-append_left os (o ∷ []) p x.1, x.2);
    apart = λ k. subst (λ (z : List (Obl P × Mark P N)). AreApart (map (λ e. e.0) z)) (sym is) (a.apart k);
  }

  adds_one : (os : List (Obl P)) (old mid new : List (Obl P × Mark P N)) (o : Obl P) → AddsEach os old mid → AddsUntaken mid new o → AddsEach (os ++ o ∷ []) old new
  adds_one os old mid new o a (inl h) = adds_known os old mid new o a h.0 h.1
  adds_one os old mid new o a (inr h) = adds_new os old mid new o a h.0 h.1

  -- a loop's step over a list from which the obligations are made
  pub adds_more : {X : Type 0} (make : X → Obl P) (xs : List X) (i : ℕ) (d : X) (old mid new : List (Obl P × Mark P N)) (o : Obl P) → i < length xs → AddsEach (map make (take i xs)) old mid → AddsUntaken mid new o → o ≡ make (get_or xs i d) → AddsEach (map make (take (i + 1) xs)) old new
  adds_more make xs i d old mid new o l a u q =
      let is : map make (take (i + 1) xs) ≡ map make (take i xs) ++ o ∷ [] = ap (map make) (take_more xs i d l) ∙ (map-append make (take i xs) (get_or xs i d ∷ []) ∙ ap (λ (z : Obl P). map make (take i xs) ++ z ∷ []) (sym q)) in
      subst (λ (z : List (Obl P)). AddsEach z old new) (sym is) (adds_one (map make (take i xs)) old mid new o a u)

  pub adds_both : (os ps : List (Obl P)) (old mid new : List (Obl P × Mark P N)) → AddsEach os old mid → AddsEach ps mid new → AddsEach (os ++ ps) old new
  adds_both os ps old mid new a c = record {
    more = a.more ++ c.more;
    extends = c.extends ∙ (ap (λ (z : List (Obl P × Mark P N)). z ++ c.more) a.extends ∙ append_assoc old a.more c.more);
    there = λ p h. elim (Contains-append_cases os ps p h) [ inl k ↦ old_key ps mid new c p (a.there p k) | inr k ↦ c.there p k ];
    fresh = λ p m h. elim (Contains-append_cases a.more c.more (p, m) h) [
      | inl k ↦ (let x = a.fresh p m k in (x.0, Contains-append_left os ps p x.1, x.2))
      | inr k ↦ (let x = c.fresh p m k in (x.0, Contains-append_right os ps p x.1, λ y. x.2 (old_key os old mid a p y)))
    ];
    apart = λ k. c.apart (a.apart k);
  }
