use Rattle.std.proofs.Common.{refl}
use Rattle.po_marks.proofs.Keys.{obligations_are_one}
use Rattle.po_marks.proofs.Values.{value_none, put_keys, put_tells}
use Rattle.po_marks.proofs.entries.set_mark.Goals as goal

pub unreachable-requires : goal.unreachable-requires
unreachable-requires g c = value_none _ (obligations_are_one g.R.Pred.PartialEq.eq _ (g.met.R.Rulebook.lawful c.args.book.now).equal_are_same (record { both_own = λ f g n m i j. refl; own_first = λ f g n m i q. refl; own_last = λ f g n m p j. refl; no_own = λ f g n m p q. refl })) _ _ _ c.in-Err.ensures.absent c.requires.there

pub returns : goal.returns
returns g c = record {
  keys = put_keys _ (obligations_are_one g.R.Pred.PartialEq.eq _ (g.met.R.Rulebook.lawful c.args.book.now).equal_are_same (record { both_own = λ f g n m i j. refl; own_first = λ f g n m i q. refl; own_last = λ f g n m p j. refl; no_own = λ f g n m p q. refl })) _ _ _ _ c.in-Ok.ensures.ok c.requires.there;
  marks = put_tells _ (obligations_are_one g.R.Pred.PartialEq.eq _ (g.met.R.Rulebook.lawful c.args.book.now).equal_are_same (record { both_own = λ f g n m i j. refl; own_first = λ f g n m i q. refl; own_last = λ f g n m p j. refl; no_own = λ f g n m p q. refl })) _ _ _ _ c.in-Ok.ensures.ok c.requires.there c.requires.apart;
}
