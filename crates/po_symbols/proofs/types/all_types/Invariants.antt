use Rattle.std.proofs.Common.{take}
use Rattle.po_symbols.specs.Said.{AreTypes}
use Rattle.po_symbols.proofs.types.all_types.Given as goal

abbrev pub invariant-loop-place : goal.invariant-loop-place
invariant-loop-place l = AreTypes (take l.place l.units) l.said
