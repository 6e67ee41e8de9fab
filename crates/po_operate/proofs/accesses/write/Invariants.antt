use Rattle.std.specs.Prelude.{◌≡◌, take}
use Rattle.po_memory.specs.Accesses.{pasted}
use Rattle.po_operate.proofs.accesses.write.Given as goal

abbrev pub invariant-loop-i : goal.invariant-loop-i
invariant-loop-i l = l.bytes ≡ pasted l.fn.bytes l.start (take l.i l.new)
