-- One edge after the other, states only rise, and what has risen waits.
use Rattle.std.proofs.Common.{◌≡◌, ◌≢◌, ℕ, ◌+◌, ◌-◌, ◌^◌, ◌≤◌, ◌<◌, List, length, true, false, get_or, sym, ◌∙◌, ap, subst, arith, inl, inr}
use Rattle.std.proofs.Math.ListN.{set, length-set}
use Rattle.std.proofs.lemmas.Bool.{cases_eq, false_from_ne_true}
use Rattle.std.proofs.lemmas.List.{get_or-set_same, get_or-set_other}
use Rattle.po_base.specs.declared.numbers.NodeNo.{NodeNo}
use Rattle.po_flow.specs.Counting.{NoneStands, counted_on}
use Rattle.po_flow.specs.Flows.{Flows, HasEdge, IsLawful}
use Rattle.po_flow.specs.Least.{EdgeHolds, IsClosed, IsTable, TableBelow, state}
use Rattle.po_flow.specs.Working.{HoldsOrWaits, IsWork, Rises, wait_of}
use Rattle.po_flow.specs.declared.work.Work.{Work}

-- what holds at one number, and at each other one
pub at_each : (P : ℕ → Type 0) (m : ℕ) → P m → ((k : ℕ) → k ≢ m → P k) → (k : ℕ) → P k
at_each P m here others k = elim (cases_eq k m) [ inl q ↦ subst P (sym q) here | inr d ↦ others k d ]

module _ {S : Type 0} (f : Flows S) (proper : S → Type 0) (law : IsLawful f proper) where
  pub below_itself : (t : List S) → IsTable f proper t → TableBelow f t t
  below_itself t is n l = law.itself _ (is.proper_states n l)

  pub below_along : (a b c : List S) → IsTable f proper a → IsTable f proper b → IsTable f proper c → TableBelow f a b → TableBelow f b c → TableBelow f a c
  below_along a b c ta tb tc p q n l = law.along _ _ _ (ta.proper_states n l) (tb.proper_states n l) (tc.proper_states n l) (p n l) (q n l)

  pub unchanged : (a : Work S) → IsWork f proper a → Rises f proper a a
  unchanged a is = record {
    is_work = is;
    above = below_itself a.table is.is_table;
    under = λ other to co h. h;
    holds = λ n m edge h. inl h;
    waits = λ n h. h;
    ranks = λ n l. omega arith;
    stood = λ h. h;
    counts = λ h n l. omega arith;
  }

  -- an edge that holds or whose source waits does so later too
  pub stays : (a b : Work S) (n m : NodeNo) → Rises f proper a b → HasEdge f n m → HoldsOrWaits f a n m → HoldsOrWaits f b n m
  stays a b n m r edge h = elim h [ inl holds ↦ r.holds n m edge holds | inr waits ↦ inr (r.waits n.0 waits) ]

  pub rises_along : (a b c : Work S) → IsWork f proper a → Rises f proper a b → Rises f proper b c → Rises f proper a c
  rises_along a b c is r s = record {
    is_work = s.is_work;
    above = below_along a.table b.table c.table is.is_table r.is_work.is_table s.is_work.is_table r.above s.above;
    under = λ other to co h. s.under other to co (r.under other to co h);
    holds = λ n m edge h. stays b c n m s edge (r.holds n m edge h);
    waits = λ n h. s.waits n (r.waits n h);
    ranks = λ n l. let one = r.ranks n l in let two = s.ranks n l in omega arith;
    stood = λ h. r.stood (s.stood h);
    counts = λ h n l. let one = r.counts (s.stood h) n l in let two = s.counts h n l in omega arith;
  }

  -- a rise of the state at m to its join with what the edge from n makes
  module _ (a b : Work S) (n m : NodeNo) (moved risen : S) (is : IsWork f proper a) (edge : HasEdge f n m) (is_moved : moved ≡ f.moved n m (state f a.table n.0)) (not_below : f.below moved (state f a.table m.0) ≡ false) (is_risen : risen ≡ f.joined (state f a.table m.0) moved) (table_is : b.table ≡ set a.table m.0 risen) (rises_are : b.rises ≡ set a.rises m.0 (counted_on (get_or a.rises m.0 0) 1)) (list_is : b.list ≡ set a.list m.0 true) where
    m_in : m.0 < f.size
    m_in = law.within n m edge

    table_at : state f b.table m.0 ≡ risen
    table_at = ap (λ t. state f t m.0) table_is ∙ get_or-set_same a.table m.0 risen f.least (omega (arith, is.is_table.long, m_in))

    table_off : (k : ℕ) → k ≢ m.0 → state f b.table k ≡ state f a.table k
    table_off k d = ap (λ t. state f t k) table_is ∙ get_or-set_other a.table m.0 k risen f.least d

    rises_at : get_or b.rises m.0 0 ≡ counted_on (get_or a.rises m.0 0) 1
    rises_at = ap (λ t. get_or t m.0 0) rises_are ∙ get_or-set_same a.rises m.0 _ 0 (omega (arith, is.are_rises.long, m_in))

    rises_off : (k : ℕ) → k ≢ m.0 → get_or b.rises k 0 ≡ get_or a.rises k 0
    rises_off k d = ap (λ t. get_or t k 0) rises_are ∙ get_or-set_other a.rises m.0 k _ 0 d

    list_at : get_or b.list m.0 false ≡ true
    list_at = ap (λ t. get_or t m.0 false) list_is ∙ get_or-set_same a.list m.0 true false (omega (arith, is.listed, m_in))

    list_off : (k : ℕ) → k ≢ m.0 → get_or b.list k false ≡ get_or a.list k false
    list_off k d = ap (λ t. get_or t k false) list_is ∙ get_or-set_other a.list m.0 k true false d

    proper_m : proper (state f a.table m.0)
    proper_m = is.is_table.proper_states m.0 m_in

    proper_n : proper (state f a.table n.0)
    proper_n = is.is_table.proper_states n.0 edge.0

    proper_moved : proper moved
    proper_moved = rw is_moved (law.moved_proper n m _ edge proper_n)

    proper_risen : proper risen
    proper_risen = rw is_risen (law.joined_proper _ _ proper_m proper_moved)

    up : f.below (state f a.table m.0) risen ≡ true
    up = rw is_risen (law.left _ _ proper_m proper_moved)

    covers : f.below moved risen ≡ true
    covers = rw is_risen (law.right _ _ proper_m proper_moved)

    rank_up : f.rank (state f a.table m.0) < f.rank risen
    rank_up =
        let back = false_from_ne_true (f.below risen (state f a.table m.0)) (λ q. let w = law.along _ _ _ proper_moved proper_risen proper_m covers q in absurd (cc)) in
        law.rank_rises _ _ proper_m proper_risen up back

    proper_b : (k : ℕ) → k < f.size → proper (state f b.table k)
    proper_b = at_each (λ k. k < f.size → proper (state f b.table k)) m.0 (λ l. rw table_at proper_risen) (λ k d l. rw (table_off k d) (is.is_table.proper_states k l))

    above_b : TableBelow f a.table b.table
    above_b = at_each (λ k. k < f.size → f.below (state f a.table k) (state f b.table k) ≡ true) m.0 (λ l. rw table_at up) (λ k d l. rw (table_off k d) (law.itself _ (is.is_table.proper_states k l)))

    ranked_b : (k : ℕ) → k < f.size → get_or b.rises k 0 ≤ f.rank (state f b.table k)
    ranked_b =
        at_each (λ k. k < f.size → get_or b.rises k 0 ≤ f.rank (state f b.table k)) m.0
        (λ l. let before = is.are_rises.ranked m.0 l in rw (table_at, rises_at) (omega (arith, rank_up)))
        (λ k d l. rw (table_off k d, rises_off k d) (is.are_rises.ranked k l))

    is_work_b : IsWork f proper b
    is_work_b = record {
      is_table = record { long = ap length table_is ∙ length-set a.table m.0 risen ∙ is.is_table.long; proper_states = proper_b };
      are_rises = record { long = ap length rises_are ∙ length-set a.rises m.0 _ ∙ is.are_rises.long; ranked = ranked_b };
      listed = ap length list_is ∙ length-set a.list m.0 true ∙ is.listed;
    }

    under_b : (other : List S) → IsTable f proper other → IsClosed f other → TableBelow f a.table other → TableBelow f b.table other
    under_b other to co h =
        at_each (λ k. k < f.size → f.below (state f b.table k) (state f other k) ≡ true) m.0
        (λ l.
        let po = to.proper_states m.0 m_in in
        let pon = to.proper_states n.0 edge.0 in
        let moves : f.below moved (f.moved n m (state f other n.0)) ≡ true = rw is_moved (law.monotone n m _ _ edge proper_n pon (h n.0 edge.0)) in
        let there = law.along _ _ _ proper_moved (law.moved_proper n m _ edge pon) po moves (co.edges n m edge) in
        rw (table_at, is_risen) (law.joined_below _ _ _ proper_m proper_moved po (h m.0 m_in) there))
        (λ k d l. rw (table_off k d) (h k l))

    -- the source of an edge is m, and waits, or its state is the same
    holds_b : (i j : NodeNo) → HasEdge f i j → EdgeHolds f a.table i j → HoldsOrWaits f b i j
    holds_b i j other h =
        elim (cases_eq i.0 m.0) [
          | inl q ↦ inr (subst (λ k. get_or b.list k false ≡ true) (sym q) list_at)
          | inr d ↦
              let pi = is.is_table.proper_states i.0 other.0 in
              let pj = is.is_table.proper_states j.0 (law.within i j other) in
              inl (rw (table_off i.0 d) (law.along _ _ _ (law.moved_proper i j _ other pi) pj (proper_b j.0 (law.within i j other)) h (above_b j.0 (law.within i j other))))
        ]

    stood_b : NoneStands b.rises → NoneStands a.rises
    stood_b none =
        at_each (λ k. get_or a.rises k 0 < 2 ^ 64 - 1) m.0
        (let here = none m.0 in let q = rises_at in omega arith)
        (λ k d. rw (← rises_off k d) (none k))

    pub raised : Rises f proper a b
    raised = record {
      is_work = is_work_b;
      above = above_b;
      under = under_b;
      holds = holds_b;
      waits = at_each (λ k. get_or a.list k false ≡ true → get_or b.list k false ≡ true) m.0 (λ _. list_at) (λ k d h. rw (list_off k d) h);
      ranks =
          at_each (λ k. k < f.size → f.rank (state f a.table k) + wait_of b.list k ≤ f.rank (state f b.table k) + wait_of a.list k) m.0
          (λ l. rw (table_at, list_at) (omega (arith, rank_up)))
          (λ k d l. rw (table_off k d, list_off k d) (omega arith));
      stood = stood_b;
      counts = λ none.
          at_each (λ k. k < f.size → get_or a.rises k 0 + wait_of b.list k ≤ get_or b.rises k 0 + wait_of a.list k) m.0
          (λ l. let here = none m.0 in let q = rises_at in rw list_at (omega arith))
          (λ k d l. rw (rises_off k d, list_off k d) (omega arith));
    }

    pub followed : HoldsOrWaits f b n m
    followed =
        elim (cases_eq n.0 m.0) [
          | inl q ↦ inr (subst (λ k. get_or b.list k false ≡ true) (sym q) list_at)
          | inr d ↦ inl (rw (table_off n.0 d, table_at, ← is_moved) covers)
        ]
