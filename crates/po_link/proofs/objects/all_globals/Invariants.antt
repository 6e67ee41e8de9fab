use Rattle.std.proofs.Common.{◌≡◌, take}
use Rattle.std.specs.Prelude.{flat_map}
use Rattle.po_link.specs.Joined.{globals_of}
use Rattle.po_link.proofs.objects.all_globals.Given as goal

abbrev pub invariant-loop-unit : goal.invariant-loop-unit
invariant-loop-unit l = l.all ≡ flat_map globals_of (take l.unit-index l.units)
