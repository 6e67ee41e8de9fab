use Rattle.std.proofs.Common.{◌≡◌, replicate, []}
use Rattle.po_ledger.proofs.shelves.empty_shelves.Given as goal

abbrev pub invariant-loop-made : goal.invariant-loop-made
invariant-loop-made g l = l.shelves.items ≡ replicate l.made []
