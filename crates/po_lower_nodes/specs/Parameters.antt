-- A parameter that is kept in memory (C99 6.9.1p10).
use Rattle.std.specs.Prelude.{ℕ, ◌+◌, ◌≡◌, List, length}
use Rattle.po_base.specs.declared.numbers.SlotNo.{SlotNo}
use Rattle.po_base.specs.declared.spot.Spot.{Spot}
use Rattle.po_ir.specs.declared.instr.Access.{Access}
use Rattle.po_ir.specs.declared.instr.Ty.TheVariants as ty
use Rattle.po_ir.specs.declared.instr.Local.TheVariants as local
use Rattle.po_ir.specs.declared.instr.Instr.TheVariants as ins
use Rattle.po_ir.specs.declared.graph.Node.{Node}
use Rattle.po_lowering.specs.Temporaries.{State, At, Takes, fresh, reg, register}
use Rattle.po_draft.specs.Sketches.{Sketch}
use Rattle.po_draft.specs.Making.{Makes}

-- Enter, AddrSlot and Store, which are a full expression: the slot gets the value of the parameter's register
pub record Keeps (ns : List Node) (s : State) (a : ℕ) (slot : SlotNo) (r : ℕ) (access : Access) (spot : Spot) (b : ℕ) (t : State) : Type 0 where
  pub number : ℕ
  pub takes : Takes ty.Ptr (fresh s) number t
  pub enters : At ns a (ins.Enter (local.Slot slot)) spot
  pub address : At ns (a + 1) (ins.AddrSlot (reg number) slot) spot
  pub stores : At ns (a + 2) (ins.Store (register number) (register r) access) spot
  pub ends : b ≡ a + 3

abbrev pub KeepsParameter : Sketch → Sketch → SlotNo → ℕ → Access → Spot → Type 0
KeepsParameter d e slot r access spot = Makes d e (λ final g. Keeps final d.state (length d.nodes) slot r access spot (length e.nodes) e.state)
