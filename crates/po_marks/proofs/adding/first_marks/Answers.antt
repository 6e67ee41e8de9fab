use Rattle.std.proofs.Common.{◌≡◌, ℕ, [], ◌∷◌, List, map, add-one, arith, subst, sym}
use Rattle.po_core.specs.Core.{AreApart}
use Rattle.po_marks.specs.Known.{AddsEach, primaries_below}
use Rattle.po_marks.proofs.Adds.{adds_none, adds_both}
use Rattle.po_marks.proofs.Waits.{none_held, none_held_still, waiting_none}
use Rattle.po_marks.proofs.adding.first_marks.Goals as goal

pub loop-number-init : goal.loop-number-init
loop-number-init g c = (
  rw c.in_ok-marks.ensures.items (adds_none []),
  waiting_none _ _ c.files.result c.in_ok-marks.ensures.queues c.files.ensures c.in_ok-marks.ensures.items c.in_ok-marks.ensures.line,
  subst (λ z. AreApart (map (λ e. e.0) z)) (sym c.in_ok-marks.ensures.items) tt,
  none_held (g.R.Rulebook.meaning c.args.book.now) c.in_ok-marks.marks c.files.result c.in_ok-marks.ensures.queues,
)

pub loop-number-preserved : goal.loop-number-preserved
loop-number-preserved g c = (
  rw add-one (adds_both _ _ _ _ _ c.loop-number.invariant.0 c.in_ok-add_primaries.ensures.ok),
  c.in_ok-add_primaries.ensures.waiting,
  c.in_ok-add_primaries.ensures.apart,
  none_held_still _ _ c.loop-number.invariant.3 c.in_ok-add_primaries.ensures.holds,
)

pub returns-clause-items : goal.returns-clause-items
returns-clause-items g c =
    let all : c.loop-number.number ≡ (g.R.Rulebook.meaning c.args.book.now).functions = omega arith in
    subst (λ (n : ℕ). AddsEach (primaries_below (g.R.Rulebook.meaning c.args.book.now) n) [] c.loop-number.marks.items) all c.loop-number.invariant.0
