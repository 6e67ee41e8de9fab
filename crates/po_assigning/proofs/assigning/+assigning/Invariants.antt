use Rattle.std.proofs.Common.{take}
use Rattle.po_assigning.specs.Gathering.{GathersMore}
use Rattle.po_assigning.proofs.assigning.+assigning.Given as goal

abbrev pub invariant-gather_each-loop-x : goal.invariant-gather_each-loop-x
invariant-gather_each-loop-x l = GathersMore (take l.x-index l.xs) l.initial.names l.names
