use Rattle.std.proofs.Common.{◌≡◌, ◌-◌}
use Rattle.po_memory.specs.Accesses.{pasted}
use Rattle.po_memory.specs.Walking.{written_bytes}
use Rattle.po_memory.proofs.writing.write.Given as goal

abbrev pub invariant-loop-place : goal.invariant-loop-place
invariant-loop-place l = l.bytes ≡ pasted l.fn.bytes l.start (written_bytes l.v l.word (l.place - l.start))
