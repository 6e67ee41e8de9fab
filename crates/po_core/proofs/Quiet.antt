-- At a quiet state what is known and assumed is the least report.
use Rattle.std.proofs.Common.{◌≡◌, ◌⊎◌, List, [], ◌∷◌, map, refl, ◌∙◌, ap, subst, inl, inr}
use Rattle.std.specs.Prelude.{Bool, true, false, IsTrue}
use Rattle.po_base.specs.declared.numbers.FunNo.{FunNo}
use Rattle.po_core.specs.Book.{Book, IsBook}
use Rattle.po_core.specs.Core.{CoreState, HasMark, IsKnown, IsSettled, IsAssumed, IsQuiet, Replays}
use Rattle.po_core.specs.Least.{AreClosed}
use Rattle.po_core.specs.Theorem.{IsLeast}
use Rattle.po_core.specs.declared.event.Event.{Event}
use Rattle.po_core.specs.declared.event.Mark.{Mark}
use Rattle.po_core.specs.declared.event.Mark.TheVariants.{Untaken, Taken, Settled}
use Rattle.po_core.specs.declared.obl.Obl.{Obl}
use Rattle.po_core.specs.declared.obl.Verdict.{Verdict}
use Rattle.po_core.proofs.Inside.{known_reported, assumed_needed}
use Rattle.po_core.proofs.Judged.{IsJudged, judged}
use Rattle.po_core.specs.Decided.{IsDecided, both_decided, functions_decided, obligations_decided, decided_by}
use Rattle.po_core.specs.Marks.{settled_untaken}
use Rattle.po_core.proofs.Once.{settled_once}
use Rattle.po_core.proofs.Orderly.{Agrees, agrees, agrees_at_start}
use Rattle.po_lists.proofs.Members.{has_from_map, Has, has, contains, contains_map}

-- whether a list has an item, as a test
module _ {X : Type 0} (decided : (x y : X) → IsDecided (x ≡ y)) where
  is_item : List X → X → Bool
  is_item [] x = false
  is_item (y ∷ ys) x = elim (decided y x) [ inl q ↦ true | inr q ↦ is_item ys x ]

  item_passes : (xs : List X) (x : X) → Has xs x → IsTrue (is_item xs x)
  unfolding is_item
  item_passes [] x h = absurd h
  item_passes (y ∷ ys) x h = elim (decided y x) as (λ d. IsTrue (elim d [ inl q ↦ true | inr q ↦ is_item ys x ])) [
    | inl q ↦ refl
    | inr q ↦ elim h [ inl e ↦ absurd (q e) | inr e ↦ item_passes ys x e ]
  ]

  passes_item : (xs : List X) (x : X) → IsTrue (is_item xs x) → Has xs x
  unfolding is_item
  passes_item [] x h = absurd (cc)
  passes_item (y ∷ ys) x h =
      let cases : (d : IsDecided (y ≡ x)) → IsTrue (elim d [ inl q ↦ true | inr q ↦ is_item ys x ]) → (y ≡ x) ⊎ Has ys x = λ d k. elim d as (λ e. IsTrue (elim e [ inl q ↦ true | inr q ↦ is_item ys x ]) → (y ≡ x) ⊎ Has ys x) [ inl q ↦ (λ k. inl q) | inr q ↦ (λ k. inr (passes_item ys x k)) ] k in
      cases (decided y x) h

module _ {P N T : Type 0} (b : Book P N T) (eq : P → P → Bool) (law : IsBook eq b) (es : List (Event P N)) (s : CoreState P N) (r : Replays b es s) (quiet : IsQuiet s) where
  obligations : (o p : Obl P) → IsDecided (o ≡ p)
  obligations = obligations_decided (decided_by eq law.equal_are_same)

  assumptions : (x y : FunNo × P) → IsDecided (x ≡ y)
  assumptions x y = elim (both_decided (functions_decided x.0 y.0) (decided_by eq law.equal_are_same x.1 y.1)) [
    | inl h ↦ inl (ap (λ (f : FunNo). let z : FunNo × P = (f, x.1) in z) h.0 ∙ ap (λ (q : P). let z : FunNo × P = (y.0, q) in z) h.1)
    | inr h ↦ inr (λ q. h (ap (λ (z : FunNo × P). z.0) q, ap (λ (z : FunNo × P). z.1) q))
  ]

  key : (Obl P × Mark P N) → Obl P
  key e = e.0

  knows : Obl P → Bool
  knows o = is_item obligations (map key s.marks) o

  assumes : FunNo → P → Bool
  assumes f q = is_item assumptions s.assumed (f, q)

  known_passes : (o : Obl P) → IsKnown s o → IsTrue (knows o)
  unfolding knows key
  known_passes o k = item_passes obligations (map key s.marks) o (has _ o (contains_map key s.marks (o, k.0) k.1))

  passes_known : (o : Obl P) → IsTrue (knows o) → IsKnown s o
  unfolding knows key
  passes_known o h =
      let x = has_from_map key s.marks o (passes_item obligations (map key s.marks) o h) in
      (x.0.1, contains s.marks (o, x.0.1) (subst (λ (z : Obl P). Has s.marks (z, x.0.1)) x.2 x.1))

  assumed_passes : (f : FunNo) (q : P) → IsAssumed s f q → IsTrue (assumes f q)
  unfolding assumes
  assumed_passes f q h = item_passes assumptions s.assumed (f, q) (has _ _ h)

  passes_assumed : (f : FunNo) (q : P) → IsTrue (assumes f q) → IsAssumed s f q
  unfolding assumes
  passes_assumed f q h = contains _ _ (passes_item assumptions s.assumed (f, q) h)

  orderly : Agrees b eq law s
  orderly = agrees b eq law es s r

  all_judged : IsJudged b eq law s
  all_judged = judged b eq law es s r

  mark_settled : (o : Obl P) (m : Mark P N) → HasMark s o m → IsSettled s o (b.verdict_of o)
  mark_settled o Untaken h = absurd (quiet.none_untaken o h)
  mark_settled o Taken h = let held = orderly.taken_in_hand o h in absurd (quiet.none_held (b.file_of o.fun) (held.0, held.1))
  mark_settled o (Settled v) h = subst (λ (w : Verdict P N). IsSettled s o w) (all_judged.verdict o v h) h

  known_settled : (o : Obl P) → IsKnown s o → IsSettled s o (b.verdict_of o)
  known_settled o k = mark_settled o k.0 k.1

  closed : AreClosed b knows assumes
  closed = record {
    asks = λ o p. known_passes o (all_judged.primaries o p);
    assumes = λ o q h d. assumed_passes o.fun q (all_judged.backed o (b.verdict_of o) q (known_settled o (passes_known o h)) d);
    supports = λ f q o h p. known_passes o (all_judged.supported f q o (passes_assumed f q h) p);
  }

  start_unsettled : (o : Obl P) (w : Verdict P N) → ¬ IsSettled r.0 o w
  start_unsettled o w h = settled_untaken w ((r.1.primaries o (Settled w)).0 h).0

  pub least : IsLeast b es s
  least = record {
    known = λ o. (known_reported b es s r o, λ h. passes_known o (h knows assumes closed));
    assumed = λ f q. (assumed_needed b es s r f q, λ h. passes_assumed f q (h knows assumes closed));
    settled = known_settled;
    once = λ o k. settled_once b eq law r.0 es s r.2 (agrees_at_start b eq law r.0 r.1) o (b.verdict_of o) (start_unsettled o) (known_settled o k);
  }
