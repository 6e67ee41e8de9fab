use Rattle.std.proofs.Common.{arith}
use Rattle.po_draft.proofs.Least.{none_at}
use Rattle.po_draft.proofs.registers.find_free.Goals as goal

pub returns-else-kinds-k : goal.returns-else-kinds-k
returns-else-kinds-k c =
    none_at c.args.kinds.now c.in-Some.k c.args.ty c.index-kinds-k.result c.index-kinds-k-in-Some.result c.in-Some.ensures (omega (arith, c.if-kinds-k.false, c.len.ensures))
