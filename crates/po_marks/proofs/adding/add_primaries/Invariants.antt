use Rattle.std.proofs.Common.{map, take}
use Rattle.po_core.specs.Core.{AreApart}
use Rattle.po_core.specs.declared.obl.Cause.TheVariants.{Primary}
use Rattle.po_marks.specs.Known.{AddsEach}
use Rattle.po_marks.specs.Waiting.{AreWaiting, KeepsHolds}
use Rattle.po_marks.proofs.adding.add_primaries.Given as goal

abbrev pub invariant-loop-place : goal.invariant-loop-place
invariant-loop-place g l =
    AddsEach (map (λ p. record { fun = l.f; node = p.0; cause = Primary p.1 }) (take l.place-index l.places)) l.initial.marks.items l.marks.items
    × AreWaiting (g.R.Rulebook.meaning l.book) l.marks
    × AreApart (map (λ e. e.0) l.marks.items)
    × KeepsHolds l.initial.marks.queues l.marks.queues
