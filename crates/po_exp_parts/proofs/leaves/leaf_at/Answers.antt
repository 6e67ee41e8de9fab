use Rattle.std.proofs.Common.{arith, sym, subst}
use Rattle.po_tree.specs.Layers.{height-leaf}
use Rattle.po_exp_parts.specs.Places.{BeginsOtherwise}
use Rattle.po_exp_parts.proofs.Standing.{at_place}
use Rattle.po_exp_parts.proofs.SingleTokens.{leaf_best, leaf_none}
use Rattle.po_exp_parts.proofs.leaves.leaf_at.Goals as goal

pub returns-in-Some : goal.returns-in-Some
returns-in-Some c = λ least depth high deep.
    let here = at_place c.args.at c.args.tokens.now c.index-tokens-at.result c.requires.inside c.index-tokens-at.is in
    record {
      best = leaf_best c.in-Some.value _ _ high deep here (subst BeginsOtherwise here c.requires.plain) (rw c.in-Some.is at c.in_ok-value.ensures);
      counted = sym (height-leaf (rw c.in-Some.is at c.in_ok-value.ensures));
      after = omega arith;
      within = omega (arith, c.requires.inside);
    }

pub returns-in-None : goal.returns-in-None
returns-in-None c = λ least depth high deep.
    let here = at_place c.args.at c.args.tokens.now c.index-tokens-at.result c.requires.inside c.index-tokens-at.is in
    leaf_none least depth _ _ here (subst BeginsOtherwise here c.requires.plain) (rw c.in-None.is at c.in_ok-value.ensures)
