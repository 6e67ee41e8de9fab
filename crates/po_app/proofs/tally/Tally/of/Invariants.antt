use Rattle.std.proofs.Common.{◌≡◌, take}
use Rattle.po_app.specs.Tallied.{tally_of}
use Rattle.po_app.proofs.tally.Tally.of.Given as goal

abbrev pub invariant-loop-line : goal.invariant-loop-line
invariant-loop-line l = l.tally ≡ tally_of (take l.line-index l.lines)
