use Rattle.std.proofs.Common.{◌≡◌, ◌∙◌, ap, subst, rules}
use Rattle.std.specs.Prelude.{IsTrue, ◌↔◌, filter}
use Rattle.std.specs.List.{Contains}
use Rattle.std.proofs.lemmas.Fn.{filter_same}
use Rattle.po_core.specs.Decided.{obligations_decided, decided_by}
use Rattle.po_core.specs.declared.event.Mark.TheVariants.{Taken}
use Rattle.po_core.specs.declared.obl.Obl.{Obl}
use Rattle.po_marks.proofs.Sets.{answers_test, left_apart, left_taken, test_taken}
use Rattle.po_marks.proofs.releasing.only_taken.Goals as goal

pub returns-clause-all : goal.returns-clause-all
returns-clause-all g c =
    let decided = obligations_decided (decided_by g.R.Pred.PartialEq.eq (g.met.R.Rulebook.lawful c.args.book.now).equal_are_same) in
    let is : c.from_vec.result ≡ filter (test_taken decided c.args.known.now.entries) c.args.items = c.from_vec.ensures ∙ (filter_same _ (test_taken decided c.args.known.now.entries) _ (λ x b f' k. (answers_test decided c.args.known.now.entries x b (subst (λ (z : Obl _). IsTrue b ↔ Contains c.args.known.now.entries (z, Taken)) k.shows (k.called.met.1)), search rules)) _ _ c.retain.ensures.filtered ∙ ap (filter (test_taken decided c.args.known.now.entries)) c.into_vec-taken.ensures) in
    left_taken decided c.args.known.now.entries c.args.items c.from_vec.result is

pub returns-clause-once : goal.returns-clause-once
returns-clause-once g c =
    let decided = obligations_decided (decided_by g.R.Pred.PartialEq.eq (g.met.R.Rulebook.lawful c.args.book.now).equal_are_same) in
    let is : c.from_vec.result ≡ filter (test_taken decided c.args.known.now.entries) c.args.items = c.from_vec.ensures ∙ (filter_same _ (test_taken decided c.args.known.now.entries) _ (λ x b f' k. (answers_test decided c.args.known.now.entries x b (subst (λ (z : Obl _). IsTrue b ↔ Contains c.args.known.now.entries (z, Taken)) k.shows (k.called.met.1)), search rules)) _ _ c.retain.ensures.filtered ∙ ap (filter (test_taken decided c.args.known.now.entries)) c.into_vec-taken.ensures) in
    left_apart decided c.args.known.now.entries c.args.items c.from_vec.result is
