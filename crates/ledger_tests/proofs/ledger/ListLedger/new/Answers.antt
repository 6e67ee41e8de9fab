use Rattle.std.proofs.Common.{replicate, [], ap, sym, refl}
use Rattle.po_core.specs.Book.{Book}
use Rattle.po_ledger.proofs.Starts.{new_is, new_kept}
use Rattle.ledger_tests.proofs.ledger.ListLedger.new.Goals as goal

pub invariant_of-result : goal.invariant_of-result
invariant_of-result g c = new_kept _ _ c.requires _ _ c.files.result c.files.ensures c.in_ok-marks.ensures c.in_ok-hands.ensures c.new.ensures.items c.no_events.ensures g.J.Naming.book.files (ap (λ (z : Book _ _ _). z.files) (sym c.requires)) refl

pub returns : goal.returns
returns g c = new_is _ _ c.requires _ (replicate g.J.Naming.book.files []) c.files.result c.files.ensures c.in_ok-marks.ensures c.in_ok-hands.ensures c.new.ensures.items c.no_events.ensures
