use Rattle.std.specs.Prelude.{◌≡◌}
use Rattle.po_memory.specs.Bytes.{zeros}
use Rattle.po_operate.proofs.accesses.zero_bytes.Given as goal

abbrev pub invariant-loop : goal.invariant-loop
invariant-loop l = l.bytes ≡ zeros l.counter
