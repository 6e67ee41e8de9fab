use Rattle.std.proofs.Common.{arith, sym, subst}
use Rattle.po_core.specs.Core.{KeepsHands}
use Rattle.po_ledger.specs.View.{LedgerView}
use Rattle.po_ledger.proofs.WholeHand.{due_next, front_more, length_front}
use Rattle.po_ledger.proofs.settling.settle_hand.Goals as goal

pub settle_item-requires-clause-due : goal.settle_item-requires-clause-due
settle_item-requires-clause-due g c = due_next g.J.Naming.book c.args.t.now c.loop-k.t c.args.ledger.now c.loop-k.ledger c.args.verdicts.now c.loop-k.k c.index-verdicts-k.result c.requires.verdicts c.loop-k.invariant (omega (arith, c.loop-k-test.true, c.len-k-end.ensures, length_front g.J.Naming.book _ _ _ _ _ c.loop-k.invariant)) c.index-verdicts-k.is

pub returns-in_err-settle_item-clause-hands : goal.returns-in_err-settle_item-clause-hands
returns-in_err-settle_item-clause-hands g c = subst (λ (z : LedgerView _ _ _). KeepsHands c.args.ledger.now.state z.state) (sym c.in_err-settle_item.ensures.err) c.loop-k.invariant.hands

pub loop-k-preserved : goal.loop-k-preserved
loop-k-preserved g c = front_more g.J.Naming.book c.loop-k.k c.args.t.now c.loop-k.t c.settle_item.new.t c.args.ledger.now c.loop-k.ledger c.settle_item.new.ledger c.loop-k.invariant c.in_ok-settle_item.ensures.ok
