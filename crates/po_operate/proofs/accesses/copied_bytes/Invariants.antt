use Rattle.std.specs.Prelude.{take}
use Rattle.po_memory.specs.Bytes.{AreCopied}
use Rattle.po_operate.proofs.accesses.copied_bytes.Given as goal

abbrev pub invariant-loop-i : goal.invariant-loop-i
invariant-loop-i l = AreCopied (take l.i l.source) (take l.i l.old) l.bytes
