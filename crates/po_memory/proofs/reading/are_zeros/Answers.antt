use Rattle.std.proofs.Common.{arith, refl}
use Rattle.po_memory.proofs.ReadBytes.{zeros_from}
use Rattle.po_memory.proofs.reading.are_zeros.Goals as goal

pub returns : goal.returns
returns c = (λ h. zeros_from c.args.bytes.now (λ j less. c.loop-i.invariant j (omega arith)), λ h. refl)
