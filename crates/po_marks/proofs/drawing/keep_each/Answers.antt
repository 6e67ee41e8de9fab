use Rattle.std.proofs.Common.{◌≡◌, ◌++◌, arith, ◌∙◌, ap, sym}
use Rattle.std.proofs.lemmas.List.{append-nil, take_all}
use Rattle.po_marks.proofs.Draws.{kept_more, open_more}
use Rattle.po_marks.proofs.drawing.keep_each.Goals as goal

pub loop-o-init : goal.loop-o-init
loop-o-init g c = (sym (append-nil _), c.requires.open, omega arith, omega arith)

pub loop-o-preserved : goal.loop-o-preserved
loop-o-preserved g c = (
  kept_more _ _ _ c.args.waiting.now c.loop-o.o-index c.o-item.result c.loop-o-test.true c.o-item.is c.loop-o.invariant.0 c.keep.ensures.items,
  open_more _ _ _ _ c.o-item.result c.loop-o.invariant.1 c.keep.ensures.items c.keep.ensures.hand,
  omega (arith, c.loop-o.invariant.2, c.keep.ensures.room),
  omega (arith, c.loop-o.invariant.3, c.keep.ensures.hand_room),
)

pub returns-clause-items : goal.returns-clause-items
returns-clause-items g c = c.loop-o.invariant.0 ∙ ap (λ z. c.args.drawn.now.items.items ++ z) (take_all c.loop-o.o-index c.args.waiting.now c.loop-o-test.false)
