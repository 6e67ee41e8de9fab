use Rattle.std.proofs.Common.{arith}
use Rattle.po_ledger.proofs.WholeHand.{front_more, front_none, hand_done, length_front}
use Rattle.ledger_tests.proofs.Plain.{due_here}
use Rattle.ledger_tests.proofs.solving.settle_ticket.Goals as goal

pub settle_item-requires-clause-due : goal.settle_item-requires-clause-due
settle_item-requires-clause-due g c = due_here g.J.Naming.book c.args.t.now c.loop-k.t c.args.ledger.now c.loop-k.ledger c.loop-k.k c.in_ok-verdict.verdict c.loop-k.invariant c.in_ok-verdict.ensures

pub loop-k-preserved : goal.loop-k-preserved
loop-k-preserved g c = front_more g.J.Naming.book c.loop-k.k c.args.t.now c.loop-k.t c.settle_item.new.t c.args.ledger.now c.loop-k.ledger c.settle_item.new.ledger c.loop-k.invariant c.in_ok-settle_item.ensures.ok
