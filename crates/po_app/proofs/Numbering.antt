-- The lines of a node stand together, so that each counts on from the line before it.
use Rattle.std.proofs.Common.{◌≡◌, ◌⊎◌, inl, inr, ℕ, zero, suc, ◌+◌, ◌-◌, ◌<◌, ◌≤◌, ◌==◌, ◌&&◌, List, [], ◌++◌, append_assoc, length, get_or, take, length-take, ◌∷◌, Bool, true, false, refl, ap, sym, ◌∙◌, arith, subst}
use Rattle.std.specs.Prelude.{count_by}
use Rattle.std.specs.Ordering.{nat_cmp, ordering_then}
use Rattle.std.specs.declared.cmp.Ordering.{Ordering}
use Rattle.std.specs.declared.cmp.Ordering.TheVariants.{Less, Equal, Greater}
use Rattle.std.proofs.lemmas.Cmp.{ranked}
use Rattle.std.proofs.lemmas.Bool.{cases_lt, eqb-true, eq-eqb, false≢true}
use Rattle.std.proofs.lemmas.List.{get_or_default}
use Rattle.std.proofs.lemmas.List.Sums.{count_by_more_yes, count_by_more_no, count_by-le-length}
use Rattle.po_ir.specs.declared.project.Project.{Project}
use Rattle.po_core.specs.declared.obl.Obl.{Obl}
use Rattle.po_core.specs.declared.obl.Verdict.TheVariants.{Open}
use Rattle.po_core.specs.Order.{obl_cmp}
use Rattle.po_pred.specs.declared.pred.Pred.{Pred}
use Rattle.po_pred.specs.Order.{pred_cmp}
use Rattle.po_app.specs.ReportText.{Line, at_node_of, index_after, numbered_line}
use Rattle.po_app.specs.Numbering.{StandInOrder, IsIndexAt, IsIndexBefore, lines_before}
use Rattle.po_app.proofs.Each.{each_from-take}

-- two obligations stand at one node
AtOne : Obl Pred → Obl Pred → Type 0
AtOne o p = (p.fun.0 ≡ o.fun.0) × (p.node.0 ≡ o.node.0)

both_true : (a b : Bool) → (a && b) ≡ true → (a ≡ true) × (b ≡ true)
both_true true true h = (refl, refl)
both_true true false h = absurd (false≢true h)
both_true false b h = absurd (false≢true h)

at_one : (o : Obl Pred) (line : Line) → at_node_of o line ≡ true → AtOne o line.0
unfolding AtOne
at_one o line h = let k = both_true (line.0.fun.0 == o.fun.0) (line.0.node.0 == o.node.0) h in (eqb-true _ _ k.0, eqb-true _ _ k.1)

-- and the other way
tells_one : (o : Obl Pred) (line : Line) → AtOne o line.0 → at_node_of o line ≡ true
unfolding AtOne
tells_one o line h = both (line.0.fun.0 == o.fun.0) (line.0.node.0 == o.node.0) (eq-eqb _ _ h.0) (eq-eqb _ _ h.1)
  where
    both : (a b : Bool) → a ≡ true → b ≡ true → (a && b) ≡ true
    both true true h k = refl
    both true false h k = absurd (false≢true k)
    both false b h k = absurd (false≢true h)

same_tests : (o p : Obl Pred) → AtOne o p → at_node_of o ≡ at_node_of p
unfolding AtOne
same_tests o p h = λ i line. (line.0.fun.0 == sym h.0 i) && (line.0.node.0 == sym h.1 i)

-- its function is earlier, or it is the same and its node isn't later
IsBefore : Obl Pred → Obl Pred → Type 0
IsBefore o p = (o.fun.0 < p.fun.0) ⊎ ((o.fun.0 ≡ p.fun.0) × (o.node.0 ≤ p.node.0))

then_less : (a b : Ordering) → ordering_then a b ≡ Less → (a ≡ Less) ⊎ ((a ≡ Equal) × (b ≡ Less))
then_less Less b h = inl refl
then_less Equal b h = inr (refl, h)
then_less Greater b h = absurd (cc)

before_by : (o p : Obl Pred) → (nat_cmp o.fun.0 p.fun.0 ≡ Less) ⊎ ((nat_cmp o.fun.0 p.fun.0 ≡ Equal) × ((nat_cmp o.node.0 p.node.0 ≡ Less) ⊎ (nat_cmp o.node.0 p.node.0 ≡ Equal))) → IsBefore o p
unfolding IsBefore
before_by o p (inl h) = inl (ranked o.fun.0 p.fun.0 Less (sym h))
before_by o p (inr (h, inl k)) = let l = ranked o.node.0 p.node.0 Less (sym k) in inr (ranked o.fun.0 p.fun.0 Equal (sym h), omega (arith, l))
before_by o p (inr (h, inr k)) = let l = ranked o.node.0 p.node.0 Equal (sym k) in inr (ranked o.fun.0 p.fun.0 Equal (sym h), omega (arith, l))

is_before : (o p : Obl Pred) → obl_cmp pred_cmp o p ≡ Less → IsBefore o p
is_before o p h = before_by o p (elim (then_less (nat_cmp o.fun.0 p.fun.0) _ h) [ inl k ↦ inl k | inr k ↦ inr (k.0, elim (then_less (nat_cmp o.node.0 p.node.0) _ k.1) [ inl l ↦ inl l | inr l ↦ inr l.0 ]) ])

-- what stands between two obligations of one node stands there too
between : (o p q : Obl Pred) → IsBefore o p → IsBefore p q → AtOne q o → AtOne q p
unfolding AtOne IsBefore
between o p q (inl h) (inl k) at = absurd (omega (arith, at.0))
between o p q (inl h) (inr k) at = absurd (omega (arith, at.0, k.0))
between o p q (inr h) (inl k) at = absurd (omega (arith, at.0, h.0))
between o p q (inr h) (inr k) at = (k.0, omega (arith, at.1, h.1, k.1))

none_among : (p : Line → Bool) (lines : List Line) (k : ℕ) → k ≤ length lines → ((i : ℕ) (d : Line) → i < k → p (get_or lines i d) ≡ false) → Line → count_by p (take k lines) ≡ 0
none_among p lines zero short none d = refl
none_among p lines (suc k) short none d =
    let more : k + 1 ≡ suc k = omega arith in
    let rest = none_among p lines k (omega arith) (λ i d h. none i d (omega arith)) d in
    subst (λ n. count_by p (take n lines) ≡ 0) more (count_by_more_no p lines k d (omega arith) (none k d (omega arith)) ∙ rest)

not_true : (b : Bool) → (b ≡ true → ⊥) → b ≡ false
not_true true h = absurd (h refl)
not_true false h = refl

module _ (lines : List Line) (at : ℕ) (order : StandInOrder lines) (within : at < length lines)
    (other : (d : Line) → 0 < at → at_node_of (get_or lines at d).0 (get_or lines (at - 1) d) ≡ false) where
  -- what stands at the node of this line stands right before it
  nothing : (i : ℕ) (d : Line) → i < at → AtOne (get_or lines at d).0 (get_or lines i d).0 → (i < at - 1) ⊎ (at - 1 ≤ i) → ⊥
  nothing i d h one (inl far) =
      let first = is_before (get_or lines i d).0 (get_or lines (at - 1) d).0 (order i (at - 1) d far (omega arith)) in
      let second = is_before (get_or lines (at - 1) d).0 (get_or lines at d).0 (order (at - 1) at d (omega arith) within) in
      let near = between _ _ _ first second one in
      false≢true (sym (other d (omega arith)) ∙ tells_one (get_or lines at d).0 (get_or lines (at - 1) d) near)
  nothing i d h one (inr near) =
      let same : i ≡ at - 1 = omega arith in
      let here : AtOne (get_or lines at d).0 (get_or lines (at - 1) d).0 = subst (λ k. AtOne (get_or lines at d).0 (get_or lines k d).0) same one in
      false≢true (sym (other d (omega arith)) ∙ tells_one (get_or lines at d).0 (get_or lines (at - 1) d) here)

  earlier : (d : Line) (i : ℕ) (c : Line) → i < at → at_node_of (get_or lines at d).0 (get_or lines i c) ≡ false
  earlier d i c h =
      let fall : get_or lines i c ≡ get_or lines i d = get_or_default lines i c d (omega arith) in
      ap (at_node_of (get_or lines at d).0) fall ∙ not_true _ (λ is. nothing i d h (at_one (get_or lines at d).0 (get_or lines i d) is) (cases_lt i (at - 1)))

  -- the first line of a node has the index 0
  pub index_first : IsIndexAt lines at 0
  index_first d = sym (none_among (at_node_of (get_or lines at d).0) lines at (omega arith) (earlier d) d)

-- a line at the node of the line before it has the next index
pub index_next : (lines : List Line) (at before : ℕ) → at < length lines → 0 < at → ((d : Line) → at_node_of (get_or lines at d).0 (get_or lines (at - 1) d) ≡ true) → IsIndexBefore lines at before → IsIndexAt lines at (before + 1)
index_next lines at before within some same counted d =
    let o = (get_or lines at d).0 in
    let p = (get_or lines (at - 1) d).0 in
    let tests = same_tests o p (at_one o (get_or lines (at - 1) d) (same d)) in
    let one_more = count_by_more_yes (at_node_of o) lines (at - 1) d (omega arith) (same d) in
    let up : (at - 1) + 1 ≡ at = omega arith in
    ap (λ n. n + 1) (counted some d) ∙ ap (λ t. count_by t (take (at - 1) lines) + 1) (sym tests) ∙ sym one_more ∙ ap (λ k. count_by (at_node_of o) (take k lines)) up

some_item : {X : Type 0} (xs : List X) → 0 < length xs → X
some_item [] h = absurd (omega arith)
some_item (x ∷ xs) h = x

-- a line isn't its node's first where its index is counted on, so that the index stays below the line's place
pub index_below : (lines : List Line) (at before : ℕ) → at < length lines → 0 < at → IsIndexBefore lines at before → before + 1 ≤ at
index_below lines at before within some counted =
    let d = some_item lines (omega arith) in
    let least = count_by-le-length (at_node_of (get_or lines (at - 1) d).0) (take (at - 1) lines) in
    omega (arith, counted some d, least, length-take (at - 1) lines)

-- what two lines were compared by, whatever stands for a line where there is none
pub compared : (lines : List Line) (at : ℕ) (b : Bool) (d e : Line) → at < length lines → b ≡ at_node_of (get_or lines at d).0 ((get_or lines (at - 1) e).0, Open) → (c : Line) → at_node_of (get_or lines at c).0 (get_or lines (at - 1) c) ≡ b
compared lines at b d e within is c =
    let here = get_or_default lines at c d within in
    let before = get_or_default lines (at - 1) c e (omega arith) in
    ap (λ (x : Line). at_node_of x.0 (get_or lines (at - 1) c)) here ∙ ap (at_node_of (get_or lines at d).0) before ∙ sym is

-- one more line is written
pub written_more : (p : Project) (lines : List Line) (at n : ℕ) (d : Line) (start old new : List ℕ) → at < length lines → IsIndexAt lines at n →
    old ≡ start ++ lines_before p lines at → new ≡ old ++ numbered_line p n (get_or lines at d) → new ≡ start ++ lines_before p lines (at + 1)
written_more p lines at n d start old new within index before now =
    let line = get_or lines at d in
    let numbered = ap (λ k. lines_before p lines at ++ numbered_line p k line) (index d) in
    let taken = each_from-take (λ k (x : Line). numbered_line p (index_after (take k lines) x.0) x) lines at d within in
    now ∙ ap (λ l. l ++ numbered_line p n line) before ∙ append_assoc start _ _ ∙ ap (λ l. start ++ l) (numbered ∙ sym taken)

pub index_kept : (lines : List Line) (at n : ℕ) → IsIndexAt lines at n → IsIndexBefore lines (at + 1) n
index_kept lines at n h some = let e : (at + 1) - 1 ≡ at = omega arith in subst (λ k. IsIndexAt lines k n) (sym e) h
