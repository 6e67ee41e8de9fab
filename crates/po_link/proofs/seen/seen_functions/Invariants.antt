use Rattle.std.proofs.Common.{take}
use Rattle.std.specs.Prelude.{flat_map}
use Rattle.po_link.specs.Joined.{functions_of}
use Rattle.po_link.specs.Noted.{AreSeen}
use Rattle.po_link.proofs.seen.seen_functions.Given as goal

abbrev pub invariant-loop-unit : goal.invariant-loop-unit
invariant-loop-unit l = AreSeen l.seen (flat_map functions_of (take l.unit-index l.units))
