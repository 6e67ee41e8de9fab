use Rattle.std.proofs.Common.{◌≡◌, map, refl, sym, subst}
use Rattle.std.specs.List.{Contains}
use Rattle.po_core.specs.Core.{AreApart}
use Rattle.po_core.specs.Marks.{settled_untaken}
use Rattle.po_core.specs.declared.event.Mark.TheVariants.{Taken, Settled}
use Rattle.po_marks.specs.Known.{AreRemarked}
use Rattle.po_marks.specs.Waiting.{AreWaiting, Marking}
use Rattle.po_marks.proofs.Marked.{set_remarks}
use Rattle.po_marks.proofs.Waits.{not_settled, not_taken, remark_still, waiting_still}
use Rattle.po_marks.proofs.releasing.settle.Goals as goal

pub returns-clause-marks : goal.returns-clause-marks
returns-clause-marks g c = subst (λ (z : Marking _ _). AreRemarked (λ p. p ≡ c.args.o) Taken (Settled c.args.v) z.items c.set_mark.new.known.entries) c.marks.view_is (set_remarks c.args.o Taken (Settled c.args.v) _ _ (subst (λ (z : Marking _ _). AreApart (map (λ e. e.0) z.items)) (sym c.marks.view_is) c.requires.apart) (subst (λ (z : Marking _ _). Contains z.items (c.args.o, Taken)) (sym c.marks.view_is) c.requires.taken) c.set_mark.ensures)

pub returns-clause-waiting : goal.returns-clause-waiting
returns-clause-waiting g c = waiting_still _ _ _ refl refl (remark_still (g.R.Rulebook.meaning c.args.book.now) (λ p. p ≡ c.args.o) Taken (Settled c.args.v) (not_settled (g.R.Rulebook.meaning c.args.book.now) c.args.v) (not_taken (g.R.Rulebook.meaning c.args.book.now)) _ _ (set_remarks c.args.o Taken (Settled c.args.v) _ _ (subst (λ (z : Marking _ _). AreApart (map (λ e. e.0) z.items)) (sym c.marks.view_is) c.requires.apart) (subst (λ (z : Marking _ _). Contains z.items (c.args.o, Taken)) (sym c.marks.view_is) c.requires.taken) c.set_mark.ensures)) (subst (λ (z : Marking _ _). AreWaiting (g.R.Rulebook.meaning c.args.book.now) z) (sym c.marks.view_is) c.requires.waiting)
