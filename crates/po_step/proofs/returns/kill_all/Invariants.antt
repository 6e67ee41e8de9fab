use Rattle.std.specs.Prelude.{take}
use Rattle.po_meaning.specs.Steps.{KillsAll}
use Rattle.po_step.proofs.returns.kill_all.Given as goal

abbrev pub invariant-loop-slot : goal.invariant-loop-slot
invariant-loop-slot l = KillsAll (take l.slot-index l.slots) l.initial.m.blocks l.m.blocks
