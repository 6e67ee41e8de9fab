use Rattle.std.proofs.Common.{refl, arith, ap}
use Rattle.po_core.specs.Book.{Book}
use Rattle.po_worker.proofs.Held.{one_more_free, none_held}
use Rattle.po_worker.proofs.locked.put_back_all.Goals as goal

pub loop-number-preserved : goal.loop-number-preserved
loop-number-preserved g c = one_more_free c.loop-number.number (record { 0 = c.loop-number.number }) c.loop-number.ledger.state c.put_back_if_held.new.ledger.state refl c.put_back_if_held.ensures.free c.put_back_if_held.ensures.others c.loop-number.invariant

pub returns : goal.returns
returns g c = none_held c.loop-number.number g.J.Naming.book.files c.loop-number.ledger.state (omega (arith, c.loop-number-test.false, c.files-number-end.ensures, ap (λ (z : Book _ _ _). z.files) c.book-book.ensures)) c.loop-number.invariant c.keeps_its_hands.ensures.held_there
