use Rattle.po_core.proofs.Judged.{judged}
use Rattle.po_core.proofs.Orderly.{agrees}
use Rattle.po_core.proofs.Possible.{all_possible}
use Rattle.po_core.proofs.laws.legal_lists_are_orderly.Goals as goal

pub returns : goal.returns
returns g c = λ es s r.
    let law = g.met.R.Rulebook.lawful c.args.book.now in
    let a = agrees _ _ law es s r in
    let p = all_possible _ _ law es s r in
    record {
      one_mark = a.one_mark;
      functions_there = λ o k. (p.known o k).0;
      hands_known = a.hands_known;
      hands_of_file = a.hands_of_file;
      hands_once = a.hands_once;
      hands_taken = a.hands_taken;
      taken_in_hand = a.taken_in_hand;
      supports_known = (judged _ _ law es s r).supported;
    }
