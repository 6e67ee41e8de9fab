use Rattle.std.proofs.Common.{arith, refl}
use Rattle.po_tree.specs.Signs.{word}
use Rattle.po_exp_parts.proofs.Standing.{stands_first, stands_within}
use Rattle.po_exp_parts.proofs.SingleTokens.{selected_best, selected_none}
use Rattle.po_exp_parts.proofs.leaves.selected_at.Goals as goal

pub returns-in_ok-share-in-Some : goal.returns-in_ok-share-in-Some
returns-in_ok-share-in-Some c = λ types depth.
    let w = c.in-Some.ensures in
    let here = stands_first c.args.at c.args.tokens.now (word c.in-Some.name.now) w.1 in
    record {
      best = rw c.in_ok-share-in-Some.ensures (selected_best c.args.s c.in-Some.name.now _ w here);
      counted = refl;
      after = omega arith;
      within = omega (arith, stands_within c.args.at c.args.tokens.now (word c.in-Some.name.now) w.1);
    }

pub returns-in-None : goal.returns-in-None
returns-in-None c = λ types depth. selected_none depth c.args.s c.in-None.ensures
