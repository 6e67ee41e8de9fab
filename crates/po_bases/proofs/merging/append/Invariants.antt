use Rattle.std.proofs.Common.{◌≡◌, ◌++◌, take}
use Rattle.po_bases.proofs.merging.append.Given as goal

abbrev pub invariant-loop-entry : goal.invariant-loop-entry
invariant-loop-entry g l = l.list ≡ l.initial.list ++ take l.entry-index l.entries
