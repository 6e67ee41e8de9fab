use Rattle.std.proofs.Common.{refl}
use Rattle.po_marks.proofs.Keys.{obligations_are_one}
use Rattle.po_marks.proofs.Values.{put_new}
use Rattle.po_marks.proofs.entries.insert_new.Goals as goal

pub returns : goal.returns
returns g c = put_new _ (obligations_are_one g.R.Pred.PartialEq.eq _ (g.met.R.Rulebook.lawful c.args.book.now).equal_are_same (record { both_own = λ f g n m i j. refl; own_first = λ f g n m i q. refl; own_last = λ f g n m p j. refl; no_own = λ f g n m p q. refl })) _ _ _ _ c.in-Ok.ensures.ok c.requires.new
