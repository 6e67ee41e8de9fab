use Rattle.po_ledger.proofs.Assuming.{no_call_sites}
use Rattle.po_ledger.proofs.Counted.{none_are_held}
use Rattle.po_ledger.proofs.Queued.{queued_new}
use Rattle.po_ledger.proofs.Starts.{new_is, new_kept}
use Rattle.po_ledger.proofs.ledger.Ledger.new.Goals as goal

pub invariant_of-result : goal.invariant_of-result
invariant_of-result g c = (
  new_kept _ _ c.requires _ _ c.files.result c.files.ensures c.in_ok-marks.ensures.items c.in_ok-hands.ensures c.new.ensures.empty c.no_events.ensures c.files-2.result c.files-2.ensures c.in_ok-shelves.ensures,
  queued_new _ _ c.requires _ _ c.files.result c.in_ok-marks.ensures.waiting c.in_ok-marks.ensures.none_held c.in_ok-hands.ensures,
  none_are_held _ c.files.result c.in_ok-hands.ensures,
  no_call_sites (g.R.Rulebook.meaning c.args.book.now) _ c.new-2.ensures,
)

pub returns : goal.returns
returns g c = new_is _ _ c.requires _ c.in_ok-shelves.shelves.items c.files.result c.files.ensures c.in_ok-marks.ensures.items c.in_ok-hands.ensures c.new.ensures.empty c.no_events.ensures
