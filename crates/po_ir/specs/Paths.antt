-- The ways through a graph.
use Rattle.std.specs.Prelude.{ℕ, ◌≡◌, ◌≢◌, ◌⊎◌, List, [], ◌∷◌, Some, Contains, slice_get}
use Rattle.po_base.specs.declared.numbers.RegNo.{RegNo}
use Rattle.po_base.specs.declared.numbers.SlotNo.{SlotNo}
use Rattle.po_ir.specs.declared.graph.Node.{Node}
use Rattle.po_ir.specs.declared.graph.Graph.{Graph}
use Rattle.po_ir.specs.declared.instr.Instr.{Instr}
use Rattle.po_ir.specs.Instructions.{written, entered, left, followers}

abbrev pub NodeAt : Graph → ℕ → Instr → Type 0
NodeAt g n i = (node : Node) × (slice_get g.nodes n ≡ Some node) × (node.instr ≡ i)

-- an edge of the graph: the node m may follow the node n
abbrev pub Edge : Graph → ℕ → ℕ → Type 0
Edge g n m = (i : Instr) × NodeAt g n i × Contains (followers n i) m

-- Path g a back b: a way leads from the node a to the node b through the instructions of `back`, the last one first; that of b
-- isn't among them
pub data Path (g : Graph) (a : ℕ) : List Instr → ℕ → Type 0 where
  start : Path g a [] a
  step : (back : List Instr) (n m : ℕ) (i : Instr) → Path g a back n → NodeAt g n i → Contains (followers n i) m → Path g a (i ∷ back) m

abbrev pub Reachable : Graph → ℕ → Type 0
Reachable g n = (back : List Instr) × Path g 0 back n

-- on the way back the register was written
abbrev pub IsWritten : RegNo → List Instr → Type 0
IsWritten r [] = ⊥
IsWritten r (i ∷ back) = (written i ≡ Some r) ⊎ IsWritten r back

-- on the way back the slot was entered, and not left since
abbrev pub IsEntered : SlotNo → List Instr → Type 0
IsEntered s [] = ⊥
IsEntered s (i ∷ back) = (entered i ≡ Some s) ⊎ ((left i ≢ Some s) × IsEntered s back)
