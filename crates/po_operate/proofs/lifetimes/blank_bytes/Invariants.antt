use Rattle.std.specs.Prelude.{◌≡◌, replicate}
use Rattle.po_memory.specs.declared.value.Byte.TheVariants as byte
use Rattle.po_operate.proofs.lifetimes.blank_bytes.Given as goal

abbrev pub invariant-loop : goal.invariant-loop
invariant-loop l = l.bytes ≡ replicate l.counter byte.Blank
