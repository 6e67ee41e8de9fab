use Rattle.std.proofs.Common.{◌≡◌, map, take}
use Rattle.po_astate.specs.Rounding.{round_entry}
use Rattle.po_astate.proofs.rounding.round_entries.Given as goal

abbrev pub invariant-loop-entry : goal.invariant-loop-entry
invariant-loop-entry l = l.rounded ≡ map (round_entry l.th l.head) (take l.entry-index l.entries)
