-- The report of a ledger, and how much is left where there is none.
use Rattle.std.proofs.Common.{◌≡◌, ◌⊎◌, ℕ, zero, suc, ◌+◌, ◌<◌, List, [], ◌∷◌, length, refl, sym, ◌∙◌, ap, subst, inl, inr, arith}
use Rattle.std.specs.Prelude.{Option}
use Rattle.std.specs.List.{Contains, AllPairs}
use Rattle.std.specs.declared.cmp.Ordering.{Ordering}
use Rattle.std.specs.declared.cmp.Ordering.TheVariants.{Less}
use Rattle.po_base.specs.declared.numbers.FunNo.{FunNo}
use Rattle.po_core.specs.Book.{Book}
use Rattle.po_core.specs.Core.{CoreState, IsQuiet, IsSettled, Replays}
use Rattle.po_core.specs.Least.{IsLeastReport, IsReported}
use Rattle.po_lists.proofs.Members.{contains}
use Rattle.po_core.specs.Marks.{same_verdict}
use Rattle.po_core.specs.Order.{assumption_cmp, obl_cmp}
use Rattle.po_core.specs.Theorem.{IsLeast, IsOrderly}
use Rattle.po_core.specs.declared.event.Event.{Event}
use Rattle.po_core.specs.declared.event.Hand.{Hand}
use Rattle.po_core.specs.declared.event.Mark.{Mark}
use Rattle.po_core.specs.declared.event.Mark.TheVariants.{Untaken, Settled}
use Rattle.po_core.specs.declared.obl.Obl.{Obl}
use Rattle.po_core.specs.declared.obl.Verdict.{Verdict}
use Rattle.po_ledger.specs.Calls.{Counts, IsBusy}
use Rattle.po_ledger.specs.Parts.{AreSame, HandAt, ListsVerdicts}
use Rattle.po_ledger.specs.View.{LedgerView, IsKept}
use Rattle.po_ledger.proofs.Kept.{order_here}

counts_some : {X : Type 0} (Q : X → Type 0) (n : ℕ) → Counts Q n → 0 < n → (x : X) × Q x
counts_some {X} Q n c l = first c.0 c.4 c.2
  where
    first : (xs : List X) → length xs ≡ n → ((x : X) → Contains xs x → Q x) → (x : X) × Q x
    first [] long each = let none : 0 ≡ n = long in absurd (omega arith)
    first (x ∷ xs) long each = (x, each x (contains (x ∷ xs) x (inl refl)))

counts_nothing : {X : Type 0} (Q : X → Type 0) → Counts Q 0 → (x : X) → ¬ Q x
counts_nothing {X} Q c x h = empty c.0 c.4 (c.3 x h)
  where
    empty : (xs : List X) → length xs ≡ 0 → Contains xs x → ⊥
    empty [] long k = let l : k.0 < 0 = k.1 in omega arith
    empty (y ∷ ys) long k = let l : suc (length ys) ≡ 0 = long in omega arith

module _ {P N T : Type 0} (l now : LedgerView P N T) (q : l ≡ now) (hands : List (Option (Hand P))) (eh : hands ≡ l.state.hands) (marks : List (Obl P × Mark P N)) (em : marks ≡ l.state.marks) (held untaken : ℕ) (of_files : Counts (HandAt hands) held) (of_obligations : Counts (λ o. Contains marks (o, Untaken)) untaken) where
  held_now : Counts (HandAt now.state.hands) held
  held_now = subst (λ (z : List (Option (Hand P))). Counts (HandAt z) held) (eh ∙ ap (λ (z : LedgerView P N T). z.state.hands) q) of_files

  untaken_now : Counts (λ o. Contains now.state.marks (o, Untaken)) untaken
  untaken_now = subst (λ (z : List (Obl P × Mark P N)). Counts (λ o. Contains z (o, Untaken)) untaken) (em ∙ ap (λ (z : LedgerView P N T). z.state.marks) q) of_obligations

  pub is_busy : 0 < held + untaken → IsBusy now.state held untaken
  is_busy some = record {
    busy = λ quiet. elim (one_of held untaken some) [
      | inl h ↦ (let x = counts_some (HandAt now.state.hands) held held_now h in quiet.none_held x.0 x.1)
      | inr u ↦ (let x = counts_some (λ o. Contains now.state.marks (o, Untaken)) untaken untaken_now u in quiet.none_untaken x.0 x.1)
    ];
    held_files = held_now;
    untaken_obligations = untaken_now;
    not_none = some;
  }
    where
      one_of : (a b : ℕ) → 0 < a + b → (0 < a) ⊎ (0 < b)
      one_of zero b h = inr (omega arith)
      one_of (suc a) b h = inl (omega arith)

  pub is_quiet : ¬ (0 < held + untaken) → IsQuiet now.state
  is_quiet none =
      let no_held : held ≡ 0 = omega arith in
      let no_untaken : untaken ≡ 0 = omega arith in
      record {
        none_held = counts_nothing (HandAt now.state.hands) (subst (λ (z : ℕ). Counts (HandAt now.state.hands) z) no_held held_now);
        none_untaken = counts_nothing (λ o. Contains now.state.marks (o, Untaken)) (subst (λ (z : ℕ). Counts (λ o. Contains now.state.marks (o, Untaken)) z) no_untaken untaken_now);
      }

module _ {P N T : Type 0} (by : P → P → Ordering) (b of_book : Book P N T) (l : LedgerView P N T) (shelves : List (List (FunNo × T))) (kept : IsKept b of_book l shelves) (now : LedgerView P N T) (q : l ≡ now) (quiet : IsQuiet now.state) (order_law : (es : List (Event P N)) (s : CoreState P N) → Replays of_book es s → IsOrderly of_book s) (least_law : (es : List (Event P N)) (s : CoreState P N) → Replays of_book es s → IsQuiet s → IsLeast of_book es s) where
  least_here : IsLeast b l.journal l.state
  least_here = (subst (λ (z : Book P N T). (es : List (Event P N)) (s : CoreState P N) → Replays z es s → IsQuiet s → IsLeast z es s) kept.same_book least_law) l.journal l.state kept.ledger.replays (subst (λ (z : LedgerView P N T). IsQuiet z.state) (sym q) quiet)

  the_verdict : (o : Obl P) (v : Verdict P N) → IsSettled l.state o v → v ≡ b.verdict_of o
  the_verdict o v h = same_verdict v (b.verdict_of o) ((order_here b of_book l shelves kept order_law).one_mark o (Settled v) (Settled (b.verdict_of o)) h (least_here.settled o (Settled v, h)))

  settled_when : (o : Obl P) (v : Verdict P N) → IsReported b o × (v ≡ b.verdict_of o) → IsSettled l.state o v
  settled_when o v h = subst (λ (z : Verdict P N). IsSettled l.state o z) (sym h.1) (least_here.settled o ((least_here.known o).1 h.0))

  pub least_report : (marks : List (Obl P × Mark P N)) → marks ≡ l.state.marks → (assumed : List (FunNo × P)) → assumed ≡ l.state.assumed → (lines : List (Obl P × Verdict P N)) → ListsVerdicts marks lines → AllPairs (λ x y. obl_cmp by x.0 y.0 ≡ Less) lines → (assumptions : List (FunNo × P)) → AreSame assumed assumptions → AllPairs (λ x y. assumption_cmp by x y ≡ Less) assumptions → IsLeastReport by b (record { lines = lines; assumptions = assumptions })
  least_report marks em assumed ea lines are up assumptions same rise =
      let all : ListsVerdicts l.state.marks lines = subst (λ (z : List (Obl P × Mark P N)). ListsVerdicts z lines) em are in
      let both : AreSame l.state.assumed assumptions = subst (λ (z : List (FunNo × P)). AreSame z assumptions) ea same in
      record {
        lines = λ o v. (
          λ h. let settled = (all o v).0 h in ((least_here.known o).0 (Settled v, settled), the_verdict o v settled),
          λ h. (all o v).1 (settled_when o v h),
        );
        assumptions = λ f p. (λ h. (least_here.assumed f p).0 ((both (f, p)).0 h), λ h. (both (f, p)).1 ((least_here.assumed f p).1 h));
        lines_ascend = up;
        assumptions_ascend = rise;
      }
