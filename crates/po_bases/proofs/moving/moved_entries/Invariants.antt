use Rattle.std.proofs.Common.{◌≡◌, take}
use Rattle.po_bases.specs.Bases as bases
use Rattle.po_bases.proofs.moving.moved_entries.Given as goal

abbrev pub invariant-loop-entry : goal.invariant-loop-entry
invariant-loop-entry l = l.moved ≡ bases.moved_entries l.by l.grain (take l.entry-index l.entries)
