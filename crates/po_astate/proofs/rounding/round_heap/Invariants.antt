use Rattle.std.proofs.Common.{◌≡◌, map, take}
use Rattle.po_astate.specs.Rounding.{round_heap_entry}
use Rattle.po_astate.proofs.rounding.round_heap.Given as goal

abbrev pub invariant-loop-node : goal.invariant-loop-node
invariant-loop-node l = l.rounded ≡ map (round_heap_entry l.th l.head) (take l.node-index l.heap)
