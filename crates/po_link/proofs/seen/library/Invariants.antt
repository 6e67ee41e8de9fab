use Rattle.std.proofs.Common.{take}
use Rattle.std.specs.Prelude.{flat_map}
use Rattle.po_link.specs.Joined.{libs_of}
use Rattle.po_link.specs.Noted.{AreNoted}
use Rattle.po_link.proofs.seen.library.Given as goal

abbrev pub invariant-loop-unit : goal.invariant-loop-unit
invariant-loop-unit l = AreNoted l.noted (flat_map libs_of (take l.unit-index l.units))
