-- The order in which nodes are taken.
use Rattle.std.specs.Prelude.{ℕ, ◌<◌, ◌≡◌, List, length, Some, slice_get, slice_index}
use Rattle.po_base.specs.declared.numbers.NodeNo.{NodeNo}

-- the node stands at its place
abbrev pub IsPlaced : List NodeNo → List ℕ → ℕ → Type 0
IsPlaced nodes places n = slice_get nodes (slice_index places n) ≡ Some (record { 0 = n })

-- each item of the order is a node that stands just there
abbrev pub StandOnce : List NodeNo → List ℕ → Type 0
StandOnce nodes places = (at : ℕ) (n : NodeNo) → slice_get nodes at ≡ Some n → (n.0 < length places) × (slice_index places n.0 ≡ at)

-- An order of nodes, and the place of each: every node stands in it once.
pub record IsOrder (nodes : List NodeNo) (places : List ℕ) : Type 0 where
  pub once : StandOnce nodes places
  pub placed : (n : ℕ) → n < length places → IsPlaced nodes places n
