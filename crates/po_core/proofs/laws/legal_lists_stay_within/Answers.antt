use Rattle.po_core.proofs.Inside.{known_reported, assumed_needed}
use Rattle.po_core.proofs.Judged.{judged}
use Rattle.po_core.proofs.laws.legal_lists_stay_within.Goals as goal

pub returns : goal.returns
returns g c = λ es s r. record {
  known = known_reported _ es s r;
  assumed = assumed_needed _ es s r;
  settled = (judged _ _ (g.met.R.Rulebook.lawful c.args.book.now) es s r).verdict;
}
