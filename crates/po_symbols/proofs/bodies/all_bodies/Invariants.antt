use Rattle.std.proofs.Common.{take}
use Rattle.po_symbols.specs.Said.{AreBodies}
use Rattle.po_symbols.proofs.bodies.all_bodies.Given as goal

abbrev pub invariant-loop-place : goal.invariant-loop-place
invariant-loop-place l = AreBodies (take l.place l.units) l.said
