use Rattle.std.proofs.Common.{take}
use Rattle.po_lower_nodes.specs.Groups.{AddsRow}
use Rattle.po_lower_nodes.proofs.Groups.{leaves_of}
use Rattle.po_lower_nodes.proofs.blocks.leave_all.Given as goal

abbrev pub invariant-loop-slot : goal.invariant-loop-slot
invariant-loop-slot l = AddsRow l.initial.d l.d (λ g. leaves_of l.spot (take l.slot-index l.slots))
