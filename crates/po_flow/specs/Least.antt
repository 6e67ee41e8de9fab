-- Tables of states, which of them are closed, and which of those is the least.
use Rattle.std.specs.Prelude.{ℕ, ◌<◌, ◌≡◌, List, length, true, slice_index_or}
use Rattle.po_base.specs.declared.numbers.NodeNo.{NodeNo}
use Rattle.po_flow.specs.Flows.{Flows, HasEdge}

-- the state of a node, by its number
abbrev pub state : {S : Type 0} → Flows S → List S → ℕ → S
state f table n = slice_index_or table n f.least

-- one proper state for each node
pub record IsTable {S : Type 0} (f : Flows S) (proper : S → Type 0) (table : List S) : Type 0 where
  pub long : length table ≡ f.size
  pub proper_states : (n : ℕ) → n < f.size → proper (state f table n)

-- each state of the one table is below that of the other
abbrev pub TableBelow : {S : Type 0} → Flows S → List S → List S → Type 0
TableBelow f table other = (n : ℕ) → n < f.size → f.below (state f table n) (state f other n) ≡ true

-- what the edge makes of the state at its source is below the state at its end
abbrev pub EdgeHolds : {S : Type 0} → Flows S → List S → NodeNo → NodeNo → Type 0
EdgeHolds f table n m = f.below (f.moved n m (state f table n.0)) (state f table m.0) ≡ true

-- the start is below the state of node 0, and each edge holds, also from nodes that can't be reached
pub record IsClosed {S : Type 0} (f : Flows S) (table : List S) : Type 0 where
  pub starts : f.below f.first (state f table 0) ≡ true
  pub edges : (n m : NodeNo) → HasEdge f n m → EdgeHolds f table n m

-- the closed table of proper states that is below every closed table of proper states
pub record IsLeast {S : Type 0} (f : Flows S) (proper : S → Type 0) (table : List S) : Type 0 where
  pub is_table : IsTable f proper table
  pub closed : IsClosed f table
  pub least : (other : List S) → IsTable f proper other → IsClosed f other → TableBelow f table other
