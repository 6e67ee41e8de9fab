use Rattle.std.proofs.Common.{refl, arith}
use Rattle.std.proofs.lemmas.Bool.{iff_false}
use Rattle.po_tree.specs.Signs.{star}
use Rattle.po_exp_parts.specs.Stars.{no_star}
use Rattle.po_exp_parts.proofs.Standing.{stands_first, stands_within}
use Rattle.po_exp_parts.proofs.Leading.{leads_on, leads_end}
use Rattle.po_exp_parts.proofs.Starred.{star_leads}
use Rattle.po_exp_parts.proofs.stars.stars_at.Goals as goal

pub loop-alloc-preserved : goal.loop-alloc-preserved
loop-alloc-preserved c =
    let i = c.loop-alloc.invariant in
    let here = stands_first c.loop-alloc.next c.args.tokens.now star (c.loop-alloc-test.ensures.0 refl) in
    let inside = stands_within c.loop-alloc.next c.args.tokens.now star (c.loop-alloc-test.ensures.0 refl) in
    let words = c.in_ok-words.ensures in
    rw c.in_ok-push.ensures.ok (record {
      leads = leads_on i.leads (star_leads here words.found);
      after = omega (arith, i.after, words.after);
      within = omega (arith, inside, words.within);
    })

pub returns-clause-found : goal.returns-clause-found
returns-clause-found c = leads_end c.loop-alloc.invariant.leads (no_star _ (iff_false c.loop-alloc-test.ensures refl))
