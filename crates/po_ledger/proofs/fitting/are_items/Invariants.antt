use Rattle.std.proofs.Common.{◌≡◌, take}
use Rattle.po_ledger.specs.View.{items_of}
use Rattle.po_ledger.proofs.fitting.are_items.Given as goal

abbrev pub invariant-loop-at : goal.invariant-loop-at
invariant-loop-at g l = take l.at l.items ≡ items_of (take l.at l.own)
