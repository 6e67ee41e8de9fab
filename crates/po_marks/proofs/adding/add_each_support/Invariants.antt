use Rattle.std.proofs.Common.{◌≡◌, ℕ, map, take}
use Rattle.po_core.specs.Core.{AreApart}
use Rattle.po_marks.specs.Known.{AddsEach, supports_of}
use Rattle.po_marks.specs.Waiting.{AddsInTurn, AreWaiting}
use Rattle.po_marks.proofs.adding.add_each_support.Given as goal

abbrev pub invariant-loop-site : goal.invariant-loop-site
invariant-loop-site g l =
    AddsEach (supports_of l.q (take l.site-index l.sites)) l.initial.marks.items l.marks.items
    × ((n : ℕ) × AddsInTurn (g.R.Rulebook.meaning l.book) n l.initial.marks l.marks)
    × AreWaiting (g.R.Rulebook.meaning l.book) l.marks
    × AreApart (map (λ e. e.0) l.marks.items)
