use Rattle.std.proofs.Common.{refl}
use Rattle.po_ledger.proofs.Ascending.{lines_ascend, moved_lines, tied_are_same}
use Rattle.ledger_tests.proofs.reporting.ascending_lines.Goals as goal

pub returns-clause-all : goal.returns-clause-all
returns-clause-all g c = moved_lines c.args.marks.now c.in_ok-lines.lines.items c.sort_by_first.new.pairs.items c.from_vec.result c.in_ok-lines.ensures c.sort_by_first.ensures.same c.from_vec.ensures

pub returns-clause-ascend : goal.returns-clause-ascend
returns-clause-ascend g c =
    let by = g.R.Pred.Ord.cmp in
    let same = tied_are_same _ by g.met.R.Pred.Ord.matches_eq (g.met.R.Rulebook.lawful c.args.book.now).equal_are_same in
    lines_ascend by g.met.R.Pred.Ord.total same c.args.marks.now c.in_ok-lines.lines.items c.sort_by_first.new.pairs.items c.from_vec.result c.in_ok-lines.ensures _ c.sort_by_first.ensures (record { both_own = λ f h n m i j. refl; own_first = λ f h n m i q. refl; own_last = λ f h n m p j. refl; no_own = λ f h n m p q. refl }) c.from_vec.ensures
