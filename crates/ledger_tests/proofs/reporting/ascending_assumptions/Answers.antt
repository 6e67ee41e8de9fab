use Rattle.std.proofs.Common.{refl, sym, subst}
use Rattle.po_core.specs.Core.{AreApart}
use Rattle.po_core.specs.Order.{assumption_cmp}
use Rattle.po_ledger.proofs.Ascending.{ascends_itself, assumption_total, assumption_equal, moved_same, sorted_alike, tied_are_same}
use Rattle.ledger_tests.proofs.reporting.ascending_assumptions.Goals as goal

pub returns-clause-all : goal.returns-clause-all
returns-clause-all g c = moved_same c.args.assumed.now c.in_ok-assumptions.assumptions.items c.sort_unstable.new.self.items c.from_vec.result c.in_ok-assumptions.ensures.items c.sort_unstable.ensures.permutation c.from_vec.ensures

pub returns-clause-ascend : goal.returns-clause-ascend
returns-clause-ascend g c =
    let by = g.R.Pred.Ord.cmp in
    let same = tied_are_same _ by g.met.R.Pred.Ord.matches_eq (g.met.R.Rulebook.lawful c.args.book.now).equal_are_same in
    let apart = subst (λ z. AreApart z) (sym c.in_ok-assumptions.ensures.items) c.requires in
    ascends_itself (assumption_cmp by) (assumption_total by g.met.R.Pred.Ord.total same) (assumption_equal by g.met.R.Pred.Ord.total same) c.in_ok-assumptions.assumptions.items c.sort_unstable.new.self.items c.from_vec.result apart c.sort_unstable.ensures.permutation (sorted_alike _ (assumption_cmp by) (λ x y. refl) (λ x. x) c.sort_unstable.new.self.items c.sort_unstable.ensures.sorted) c.from_vec.ensures
