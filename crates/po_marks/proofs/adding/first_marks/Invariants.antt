use Rattle.std.proofs.Common.{[], map}
use Rattle.po_core.specs.Core.{AreApart}
use Rattle.po_marks.specs.Known.{AddsEach, primaries_below}
use Rattle.po_marks.specs.Waiting.{AreWaiting, NoneIsHeld}
use Rattle.po_marks.proofs.adding.first_marks.Given as goal

abbrev pub invariant-loop-number : goal.invariant-loop-number
invariant-loop-number g l =
    AddsEach (primaries_below (g.R.Rulebook.meaning l.book) l.number) [] l.marks.items
    × AreWaiting (g.R.Rulebook.meaning l.book) l.marks
    × AreApart (map (λ e. e.0) l.marks.items)
    × NoneIsHeld l.marks.queues
