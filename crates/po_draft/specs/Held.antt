-- Registers, and the temporaries among them that are taken.
use Rattle.std.specs.Prelude.{ℕ, List}
use Rattle.po_ir.specs.declared.instr.Ty.{Ty}
use Rattle.po_ir.specs.declared.graph.Reg.{Reg as Register}
use Rattle.po_lowering.specs.Temporaries.{State, Takes}

pub record Held : Type 0 where
  pub regs : List Register
  pub taken : List ℕ

abbrev pub with_held : Held → State → State
with_held h s = record s { regs = h.regs; taken = h.taken }

-- whatever else is passed on, a value takes this temporary
abbrev pub TakesHeld : Ty → Held → ℕ → Held → Type 0
TakesHeld ty old r new = (s : State) → Takes ty (with_held old s) r (with_held new s)
