use Rattle.std.proofs.Common.{arith}
use Rattle.po_draft.proofs.Kept.{kept_freed}
use Rattle.po_draft.proofs.registers.free_all.Goals as goal

pub returns : goal.returns
returns c = λ regs taken h. kept_freed regs taken _ _ c.loop-k.k c.loop-k.invariant (omega (arith, c.len.ensures, c.loop-k-test.false, c.loop-k.invariant.same_length, c.loop-k.kinds.ok)) h
