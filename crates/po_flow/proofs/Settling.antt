-- Taking one node after the other leads to the least table.
use Rattle.std.proofs.Common.{◌≡◌, ◌≢◌, ℕ, ◌+◌, ◌-◌, ◌*◌, ◌≤◌, ◌<◌, List, [], length, Bool, true, false, cond, get_or, sym, ◌∙◌, ap, subst, arith, inl, inr, replicate}
use Rattle.std.proofs.Math.ListN.{length-set}
use Rattle.std.proofs.Math.Nat.{mul-le-mul_left}
use Rattle.std.specs.List.{Contains}
use Rattle.std.proofs.lemmas.Bool.{cases_Bool, cases_eq}
use Rattle.std.proofs.lemmas.List.{get_or-set_same, get_or-set_other, get_or-replicate, get_or_read, length-replicate}
use Rattle.po_base.specs.declared.numbers.NodeNo.{NodeNo}
use Rattle.po_flow.specs.Counting.{AreCounted, counted_on, edge_count, leaving, sum_below}
use Rattle.po_flow.specs.Flows.{Flows, IsLawful}
use Rattle.po_flow.specs.Graph.{IsGraph}
use Rattle.po_flow.specs.Least.{IsLeast, IsTable, state}
use Rattle.po_flow.specs.Waiting.{IsTaken, IsWaiting, NoneWaits}
use Rattle.po_flow.specs.Working.{HoldsOrWaits, IsFirst, IsUnderWay, IsWork, PaysWaits, Rises, wait_of}
use Rattle.po_flow.specs.declared.work.Work.{Work}
use Rattle.po_flow.proofs.Rising.{at_each, below_along, below_itself}
use Rattle.po_flow.proofs.Sums.{sum_below-but_one, sum_below-bound, sum_below-le, sum_below-none, sum_below-one_more, sum_below-pays, sum_below-same, sum_below-times}

same_node : (n m : NodeNo) → n.0 ≡ m.0 → n ≡ m
same_node n m q = λ i. record { 0 = q i }

wait-le-one : (waiting : List Bool) (n : ℕ) → wait_of waiting n ≤ 1
wait-le-one waiting n = elim (get_or waiting n false) as (λ b. cond b 1 0 ≤ 1) [ true ↦ omega arith | false ↦ omega arith ]

-- the sum over what waits, when one is taken
waits_less : (size : ℕ) (weight : ℕ → ℕ) (before after : List Bool) (n : NodeNo) → length before ≡ size → IsTaken before n after → sum_below size (λ k. weight k * wait_of before k) ≡ sum_below size (λ k. weight k * wait_of after k) + weight n.0
waits_less size weight before after n long taken =
    let after_n : get_or after n.0 false ≡ false = ap (λ t. get_or t n.0 false) taken.2 ∙ get_or-set_same before n.0 false false taken.0 in
    let others : (k : ℕ) → k ≢ n.0 → weight k * wait_of before k ≡ weight k * wait_of after k = λ k d. ap (λ b. weight k * cond b 1 0) (sym (ap (λ t. get_or t k false) taken.2 ∙ get_or-set_other before n.0 k false false d)) in
    let one = sum_below-but_one size n.0 (λ k. weight k * wait_of before k) (λ k. weight k * wait_of after k) (omega (arith, taken.0, long)) others in
    let here : weight n.0 * wait_of before n.0 ≡ weight n.0 = ap (λ b. weight n.0 * cond b 1 0) taken.1 ∙ omega arith in
    let gone : weight n.0 * wait_of after n.0 ≡ 0 = ap (λ b. weight n.0 * cond b 1 0) after_n ∙ omega arith in
    omega arith

-- one node taken, and each of its edges evaluated: what each node's number pays for
carried : (size steps more done : ℕ) (weight old new : ℕ → ℕ) (before taken after : List Bool) (n : NodeNo) → length before ≡ size → IsTaken before n taken → PaysWaits size old taken new after → done ≤ steps + weight n.0 → steps + sum_below size (λ k. weight k * wait_of before k) ≤ sum_below size (λ k. weight k * (1 + old k)) → done + sum_below size (λ k. weight k * wait_of after k) ≤ sum_below size (λ k. weight k * (1 + new k))
carried size steps more done weight old new before taken after n long is pays few under =
    let less = waits_less size weight before taken n long is in
    let paid = sum_below-pays size weight old (wait_of taken) new (wait_of after) pays in
    let a = sum_below-one_more size weight old in
    let b = sum_below-one_more size weight new in
    omega arith

waits_up : (before after : List Bool) (k : ℕ) → (IsWaiting before k → IsWaiting after k) → wait_of before k ≤ wait_of after k
waits_up before after k up = elim (cases_Bool (get_or before k false)) [ inl t ↦ rw (t, up t) (omega arith) | inr f ↦ rw f (omega arith) ]

-- one node taken, and each of its edges evaluated: each edge was evaluated or its source waits
evaluated : (size steps done all : ℕ) (weight : ℕ → ℕ) (before taken after : List Bool) (n : NodeNo) → length before ≡ size → IsTaken before n taken → ((k : ℕ) → IsWaiting taken k → IsWaiting after k) → counted_on steps (weight n.0) ≤ done → counted_on 0 all ≤ steps + sum_below size (λ k. weight k * wait_of before k) → counted_on 0 all ≤ done + sum_below size (λ k. weight k * wait_of after k)
evaluated size steps done all weight before taken after n long is up enough over =
    let less = waits_less size weight before taken n long is in
    let more = sum_below-le size (λ k. weight k * wait_of taken k) (λ k. weight k * wait_of after k) (λ k _. mul-le-mul_left (weight k) (waits_up taken after k (up k))) in
    omega arith

-- how far the ranks are from their bound, and how many nodes wait
unfoldable pub left : {S : Type 0} → Flows S → Work S → ℕ
left f w = (f.size * f.height - sum_below f.size (λ k. 1 * f.rank (state f w.table k))) + sum_below f.size (λ k. 1 * wait_of w.list k)

module _ {S : Type 0} (f : Flows S) (proper : S → Type 0) (law : IsLawful f proper) where
  ranks_bound : (w : Work S) → IsWork f proper w → sum_below f.size (λ k. 1 * f.rank (state f w.table k)) ≤ f.size * f.height
  ranks_bound w is = sum_below-bound f.size f.height (λ k. f.rank (state f w.table k)) (λ k l. law.rank_bound _ (is.is_table.proper_states k l))

  module _ (a b : Work S) (n : NodeNo) (taken : List Bool) (is : IsTaken a.list n taken) where
    abbrev at_taken : Work S
    at_taken = record { table = a.table; rises = a.rises; list = taken }

    pub taken_is_work : IsWork f proper a → IsWork f proper at_taken
    taken_is_work work = record { is_table = work.is_table; are_rises = work.are_rises; listed = ap length is.2 ∙ length-set a.list n.0 false ∙ work.listed }

    pub left-falls : IsWork f proper a → Rises f proper at_taken b → left f b < left f a
    unfolding left
    left-falls work r =
        let less = waits_less f.size (λ _. 1) a.list taken n work.listed is in
        let paid = sum_below-pays f.size (λ _. 1) (λ k. f.rank (state f a.table k)) (wait_of taken) (λ k. f.rank (state f b.table k)) (wait_of b.list) r.ranks in
        let before = ranks_bound a work in
        let after = ranks_bound b r.is_work in
        omega arith

    still_waits : (k : ℕ) → k ≢ n.0 → IsWaiting a.list k → IsWaiting taken k
    still_waits k d h = ap (λ t. get_or t k false) is.2 ∙ get_or-set_other a.list n.0 k false false d ∙ h

    pub goes_on : (first : List S) (steps done : ℕ) → IsTable f proper first → IsUnderWay f proper first a steps → Rises f proper at_taken b → ((m : NodeNo) → Contains (f.nexts n) m → HoldsOrWaits f b n m) → done ≤ steps + length (f.nexts n) → counted_on steps (length (f.nexts n)) ≤ done → IsUnderWay f proper first b done
    goes_on first steps done tf u r edges few enough = record {
      is_work = r.is_work;
      above = below_along f proper law first a.table b.table tf u.is_work.is_table r.is_work.is_table u.above r.above;
      under = λ other to co h. r.under other to co (u.under other to co h);
      edges = λ i j edge.
          elim (cases_eq i.0 n.0) [
            | inl q ↦
                let e = same_node i n q in
                subst (λ k. HoldsOrWaits f b k j) (sym e) (edges j (subst (λ k. Contains (f.nexts k) j) e edge.1))
            | inr d ↦
                elim (u.edges i j edge) [
                  | inl holds ↦ r.holds i j edge holds
                  | inr waits ↦ inr (r.waits i.0 (still_waits i.0 d waits))
                ]
          ];
      at_least = evaluated f.size steps done (edge_count f) (leaving f) a.list taken b.list n u.is_work.listed is r.waits enough u.at_least;
      by_rank = carried f.size steps 0 done (leaving f) (λ k. f.rank (state f a.table k)) (λ k. f.rank (state f b.table k)) a.list taken b.list n u.is_work.listed is r.ranks few u.by_rank;
      by_rises = λ none. carried f.size steps 0 done (leaving f) (λ k. get_or a.rises k 0) (λ k. get_or b.rises k 0) a.list taken b.list n u.is_work.listed is (r.counts none) few (u.by_rises (r.stood none));
    }

  -- what was read of the graph at a node that is taken
  pub nexts_read : (graph : List (List NodeNo)) → IsGraph f graph → (a : Work S) (n : NodeNo) (taken : List Bool) → IsTaken a.list n taken → IsWork f proper a → (xs : List NodeNo) → xs ≡ get_or graph n.0 xs → xs ≡ f.nexts n
  nexts_read graph is a n taken was work xs q =
      let lt : n.0 < f.size = omega (arith, was.0, work.listed) in
      get_or_read graph n.0 xs (omega (arith, is.long)) q [] ∙ is.nexts n.0 lt

  -- the first table is one of proper states
  pub first_is_table : (first : List S) → IsFirst f first → IsTable f proper first
  first_is_table first is = record {
    long = is.long;
    proper_states = at_each (λ k. k < f.size → proper (state f first k)) 0 (λ _. rw is.start law.first_proper) (λ k d _. rw (is.others k (omega arith)) law.least_proper);
  }

  -- at first all nodes wait
  pub begins : (first : List S) → IsFirst f first → IsUnderWay f proper first (record { table = first; rises = replicate f.size 0; list = replicate f.size true }) 0
  begins first is =
      let table = first_is_table first is in
      let ones : (g : ℕ → ℕ) (k : ℕ) → k < f.size → leaving f k * wait_of (replicate f.size true) k ≤ leaving f k * (1 + g k) = λ g k _. mul-le-mul_left (leaving f k) (let one = wait-le-one (replicate f.size true) k in omega arith) in
      record {
        is_work = record {
          is_table = table;
          are_rises = record { long = length-replicate {A = ℕ} f.size 0; ranked = λ k l. rw (get_or-replicate {A = ℕ} f.size k 0 0 l) (omega arith) };
          listed = length-replicate f.size true;
        };
        above = below_itself f proper law first table;
        under = λ other to co h. h;
        edges = λ n m edge. inr (get_or-replicate f.size n.0 true false edge.0);
        at_least =
            let same = sum_below-same f.size (λ k. leaving f k * wait_of (replicate f.size true) k) (λ k. leaving f k * 1) (λ k l. ap (λ b. leaving f k * cond b 1 0) (get_or-replicate f.size k true false l)) in
            omega arith;
        by_rank = let le = sum_below-le f.size _ _ (ones (λ k. f.rank (state f first k))) in omega arith;
        by_rises = λ _. let le = sum_below-le f.size _ _ (ones (λ k. get_or (replicate f.size 0) k 0)) in omega arith;
      }

  pub begins_at : (w : Work S) → IsFirst f w.table → w.rises ≡ replicate f.size 0 → w.list ≡ replicate f.size true → IsUnderWay f proper w.table w 0
  begins_at w is rises_are list_is =
      let P : List ℕ → List Bool → Type 0 = λ a b. IsUnderWay f proper w.table (record { table = w.table; rises = a; list = b }) 0 in
      subst (λ a. P a w.list) (sym rises_are) (subst (λ b. P (replicate f.size 0) b) (sym list_is) (begins w.table is))

  -- where no node waits the table is the least one
  pub at_rest : (first : List S) (w : Work S) (steps : ℕ) → IsFirst f first → IsUnderWay f proper first w steps → NoneWaits w.list → IsLeast f proper w.table
  at_rest first w steps is u none = record {
    is_table = u.is_work.is_table;
    closed = record {
      starts = rw (sym is.start) (u.above 0 law.nonempty);
      edges = λ n m edge. elim (u.edges n m edge) [ inl holds ↦ holds | inr waits ↦ let no_wait = none n.0 in absurd (cc) ];
    };
    least = λ other to co.
        u.under other to co (at_each (λ k. k < f.size → f.below (state f first k) (state f other k) ≡ true) 0
        (λ _. rw is.start co.starts)
        (λ k d l. rw (is.others k (omega arith)) (law.least_below _ (to.proper_states k l))));
  }

  -- what the counts come to
  pub are_counted : (first : List S) (w : Work S) (before steps after : ℕ) → IsUnderWay f proper first w steps → NoneWaits w.list → after ≡ counted_on before steps → AreCounted f w.rises before after
  are_counted first w before steps after u none few = record {
    at_least =
        let over = u.at_least in
        let gone : (k : ℕ) → k < f.size → leaving f k * wait_of w.list k ≡ 0 = λ k _. ap (λ b. leaving f k * cond b 1 0) (none k) ∙ omega arith in
        let waits = sum_below-none f.size (λ k. leaving f k * wait_of w.list k) gone in
        omega arith;
    by_rises = λ stood. let by = u.by_rises stood in omega arith;
    by_height =
        let by = u.by_rank in
        let most = sum_below-le f.size (λ k. leaving f k * (1 + f.rank (state f w.table k))) (λ k. leaving f k * (f.height + 1)) (λ k l. mul-le-mul_left (leaving f k) (let r = law.rank_bound _ (u.is_work.is_table.proper_states k l) in omega arith)) in
        let times = sum_below-times f.size (f.height + 1) (leaving f) in
        omega arith;
  }
