-- The edges of a flow as a list.
use Rattle.std.specs.Prelude.{ℕ, ◌<◌, ◌≡◌, List, [], length, slice_index_or}
use Rattle.po_base.specs.declared.numbers.NodeNo.{NodeNo}
use Rattle.po_flow.specs.Flows.{Flows}

-- the nexts of each node
pub record IsGraph {S : Type 0} (f : Flows S) (graph : List (List NodeNo)) : Type 0 where
  pub long : length graph ≡ f.size
  pub nexts : (n : ℕ) → n < f.size → slice_index_or graph n [] ≡ f.nexts (record { 0 = n })
