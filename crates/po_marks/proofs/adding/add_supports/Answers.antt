use Rattle.std.proofs.Common.{◌∙◌, length, sym, ap, subst}
use Rattle.po_marks.specs.Waiting.{AreWaiting, Marking}
use Rattle.po_marks.proofs.Undone.{in_turn_holds}
use Rattle.po_marks.proofs.Waits.{holds_same}
use Rattle.po_marks.proofs.adding.add_supports.Goals as goal

pub returns-in-Ok-clause-holds : goal.returns-in-Ok-clause-holds
returns-in-Ok-clause-holds g c = in_turn_holds (g.R.Rulebook.meaning c.args.book.now) c.add_each_support.ensures.turn.0 _ _ c.add_each_support.ensures.turn.1

pub returns-in-Err-clause-waiting : goal.returns-in-Err-clause-waiting
returns-in-Err-clause-waiting g c = subst (λ (z : Marking _ _). AreWaiting (g.R.Rulebook.meaning c.args.book.now) z) (sym (c.forget.ensures c.args.marks.now c.add_each_support.ensures.turn.0 c.add_each_support.ensures.turn.1 (ap (λ z. length z.items) (sym c.marks.view_is) ∙ sym c.len-known.ensures.len))) c.requires.waiting

pub returns-in-Err-clause-holds : goal.returns-in-Err-clause-holds
returns-in-Err-clause-holds g c = holds_same _ _ (ap (λ (z : Marking _ _). z.queues) (c.forget.ensures c.args.marks.now c.add_each_support.ensures.turn.0 c.add_each_support.ensures.turn.1 (ap (λ z. length z.items) (sym c.marks.view_is) ∙ sym c.len-known.ensures.len)))
