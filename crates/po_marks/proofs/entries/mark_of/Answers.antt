use Rattle.std.proofs.Common.{refl}
use Rattle.po_marks.proofs.Keys.{obligations_are_one}
use Rattle.po_marks.proofs.Values.{value_some, value_none}
use Rattle.po_marks.proofs.entries.mark_of.Goals as goal

pub returns-clause-some : goal.returns-clause-some
returns-clause-some g c = value_some _ (obligations_are_one g.R.Pred.PartialEq.eq _ (g.met.R.Rulebook.lawful c.args.book.now).equal_are_same (record { both_own = λ f g n m i j. refl; own_first = λ f g n m i q. refl; own_last = λ f g n m p j. refl; no_own = λ f g n m p q. refl })) _ _ _ c.value_of.ensures

pub returns-clause-none : goal.returns-clause-none
returns-clause-none g c = value_none _ (obligations_are_one g.R.Pred.PartialEq.eq _ (g.met.R.Rulebook.lawful c.args.book.now).equal_are_same (record { both_own = λ f g n m i j. refl; own_first = λ f g n m i q. refl; own_last = λ f g n m p j. refl; no_own = λ f g n m p q. refl })) _ _ _ c.value_of.ensures
