use Rattle.std.proofs.Common.{◌≡◌, ◌++◌, ◌+◌, ◌≤◌, take}
use Rattle.po_marks.specs.Waiting.{IsOpenHand}
use Rattle.po_marks.proofs.drawing.keep_each.Given as goal

abbrev pub invariant-loop-o : goal.invariant-loop-o
invariant-loop-o g l =
    (l.drawn.items.items ≡ l.initial.drawn.items.items ++ take l.o-index l.waiting)
    × IsOpenHand l.drawn.hand.items l.drawn.items.items
    × (l.initial.drawn.items.spare ≤ l.drawn.items.spare + l.o-index)
    × (l.initial.drawn.hand.spare ≤ l.drawn.hand.spare + l.o-index)
