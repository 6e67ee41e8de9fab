use Rattle.std.proofs.Common.{◌≡◌, length, take}
use Rattle.po_lower_names.specs.Indexed.{IsIndexed}
use Rattle.po_lower_names.proofs.entries.shorten.Given as goal

abbrev pub invariant-loop-entries : goal.invariant-loop-entries
invariant-loop-entries l = IsIndexed l.entries l.numbers l.kept.items × (take l.count l.entries ≡ take l.count l.initial.entries)

abbrev pub decreases-loop-entries : goal.decreases-loop-entries
decreases-loop-entries l = length l.entries
