-- How tables rise until every edge holds.
use Rattle.std.specs.Prelude.{ℕ, ◌+◌, ◌≤◌, ◌<◌, ◌≡◌, ◌⊎◌, List, length, Bool, false, cond, slice_index, slice_index_or}
use Rattle.po_base.specs.declared.numbers.NodeNo.{NodeNo}
use Rattle.po_flow.specs.Flows.{Flows, HasEdge}
use Rattle.po_flow.specs.Least.{IsTable, IsClosed, TableBelow, EdgeHolds, state}
use Rattle.po_flow.specs.Counting.{AreRises, NoneStands, counted_on, edge_count, sum_over_edges}
use Rattle.po_flow.specs.Waiting.{IsWaiting}
use Rattle.po_flow.specs.declared.work.Work.{Work}

-- 1 for a node that waits
abbrev pub wait_of : List Bool → ℕ → ℕ
wait_of waiting n = cond (slice_index_or waiting n false) 1 0

-- a table of proper states, and for each node how often its state rose and whether it waits
pub record IsWork {S : Type 0} (f : Flows S) (proper : S → Type 0) (w : Work S) : Type 0 where
  pub is_table : IsTable f proper w.table
  pub are_rises : AreRises f w.table w.rises
  pub listed : length w.list ≡ f.size

-- the edge holds, or its source waits
abbrev pub HoldsOrWaits : {S : Type 0} → Flows S → Work S → NodeNo → NodeNo → Type 0
HoldsOrWaits f w n m = EdgeHolds f w.table n m ⊎ IsWaiting w.list n.0

-- each number of a node, and whether it waited, against those before: what waits now and didn't before has risen
abbrev pub PaysWaits : ℕ → (ℕ → ℕ) → List Bool → (ℕ → ℕ) → List Bool → Type 0
PaysWaits size old before new after = (n : ℕ) → n < size → old n + wait_of after n ≤ new n + wait_of before n

-- From a to b states only rise, and stay below each closed table that they were below. A node whose state rose waits.
pub record Rises {S : Type 0} (f : Flows S) (proper : S → Type 0) (a b : Work S) : Type 0 where
  pub is_work : IsWork f proper b
  pub above : TableBelow f a.table b.table
  pub under : (other : List S) → IsTable f proper other → IsClosed f other → TableBelow f a.table other → TableBelow f b.table other
  pub holds : (n m : NodeNo) → HasEdge f n m → EdgeHolds f a.table n m → HoldsOrWaits f b n m
  pub waits : (n : ℕ) → IsWaiting a.list n → IsWaiting b.list n
  pub ranks : PaysWaits f.size (λ n. f.rank (state f a.table n)) a.list (λ n. f.rank (state f b.table n)) b.list
  pub stood : NoneStands b.rises → NoneStands a.rises
  pub counts : NoneStands b.rises → PaysWaits f.size (λ n. slice_index a.rises n) a.list (λ n. slice_index b.rises n) b.list

-- What was done from a first table on, with so many evaluations: each edge holds or its source waits, each edge was evaluated
-- or its source waits, and each evaluation is an edge's first or follows a rise of its source. A source that waits has its next
-- evaluations still ahead.
pub record IsUnderWay {S : Type 0} (f : Flows S) (proper : S → Type 0) (first : List S) (w : Work S) (steps : ℕ) : Type 0 where
  pub is_work : IsWork f proper w
  pub above : TableBelow f first w.table
  pub under : (other : List S) → IsTable f proper other → IsClosed f other → TableBelow f first other → TableBelow f w.table other
  pub edges : (n m : NodeNo) → HasEdge f n m → HoldsOrWaits f w n m
  pub at_least : counted_on 0 (edge_count f) ≤ steps + sum_over_edges f (wait_of w.list)
  pub by_rank : steps + sum_over_edges f (wait_of w.list) ≤ sum_over_edges f (λ n. 1 + f.rank (state f w.table n))
  pub by_rises : NoneStands w.rises → steps + sum_over_edges f (wait_of w.list) ≤ sum_over_edges f (λ n. 1 + slice_index w.rises n)

-- the start at node 0, and the least state elsewhere
pub record IsFirst {S : Type 0} (f : Flows S) (table : List S) : Type 0 where
  pub long : length table ≡ f.size
  pub start : state f table 0 ≡ f.first
  pub others : (n : ℕ) → 0 < n → state f table n ≡ f.least
