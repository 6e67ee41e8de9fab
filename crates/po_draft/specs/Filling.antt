-- A label gets its node in one node after the other.
use Rattle.std.specs.Prelude.{ℕ, ◌≡◌, ◌≢◌, List, length, Option, Some, None, slice_get}
use Rattle.po_ir.specs.declared.instr.Instr.{Instr}
use Rattle.po_ir.specs.declared.graph.Node.{Node}
use Rattle.po_draft.specs.Sketches.{at_label, resolve, resolved}

-- the instruction with a node for the label, or none where that is the same
abbrev pub Settles : ℕ → ℕ → Instr → Option Instr → Type 0
Settles label place instr None = instr ≡ resolve (at_label label place) instr
Settles label place instr (Some settled) = settled ≡ resolve (at_label label place) instr

pub record IsFilledAt (i label place : ℕ) (old new : List Node) : Type 0 where
  pub same_length : length new ≡ length old
  pub others : (j : ℕ) → j ≢ i → slice_get new j ≡ slice_get old j
  pub filled : (m : Node) → slice_get old i ≡ Some m → slice_get new i ≡ Some (resolved (at_label label place) m)
