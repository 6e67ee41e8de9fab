-- Which nodes wait to be taken.
use Rattle.std.specs.Prelude.{ℕ, ◌<◌, ◌≡◌, List, length, Bool, true, false, slice_get, slice_set, Some, slice_index_or}
use Rattle.po_base.specs.declared.numbers.NodeNo.{NodeNo}
use Rattle.po_flow.specs.Order.{IsOrder}

-- the node waits
abbrev pub IsWaiting : List Bool → ℕ → Type 0
IsWaiting waiting n = slice_index_or waiting n false ≡ true

-- no node waits
abbrev pub NoneWaits : List Bool → Type 0
NoneWaits waiting = (n : ℕ) → slice_index_or waiting n false ≡ false

-- the node waited and waits no more; the others wait as before
abbrev pub IsTaken : List Bool → NodeNo → List Bool → Type 0
IsTaken before n after = (n.0 < length before) × IsWaiting before n.0 × (after ≡ slice_set before n.0 false)

-- no node that waits stands at a place of the order
abbrev pub IsIdleAt : List NodeNo → List Bool → ℕ → Type 0
IsIdleAt nodes waiting at = (n : NodeNo) → slice_get nodes at ≡ Some n → slice_index_or waiting n.0 false ≡ false

-- no node that waits stands before a place of the order
abbrev pub AreIdleBefore : List NodeNo → List Bool → ℕ → Type 0
AreIdleBefore nodes waiting place = (at : ℕ) → at < place → IsIdleAt nodes waiting at

-- each item of the order is the number of a place in the list
abbrev pub AreWithin : List NodeNo → ℕ → Type 0
AreWithin nodes size = (at : ℕ) (n : NodeNo) → slice_get nodes at ≡ Some n → n.0 < size

-- an order of the nodes, and which of them wait
pub record IsListed (nodes : List NodeNo) (places : List ℕ) (waiting : List Bool) : Type 0 where
  pub is_order : IsOrder nodes places
  pub long : length places ≡ length waiting
