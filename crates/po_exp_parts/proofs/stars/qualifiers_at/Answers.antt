use Rattle.std.proofs.Common.{arith}
use Rattle.po_exp_parts.specs.Stars.{no_qualifier}
use Rattle.po_exp_parts.proofs.Leading.{leads_on, leads_end}
use Rattle.po_exp_parts.proofs.Starred.{word_leads}
use Rattle.po_exp_parts.proofs.stars.qualifiers_at.Goals as goal

pub loop-text-preserved : goal.loop-text-preserved
loop-text-preserved c =
    let i = c.loop-text.invariant in
    let first = c.in-Some.ensures.first in
    rw (c.in_ok-push.ensures.ok, c.in_ok-share.ensures) (record {
      leads = leads_on i.leads (word_leads first.1 first.0);
      after = omega (arith, i.after);
      within = omega (arith, c.in-Some.ensures.within);
    })

pub returns-clause-found : goal.returns-clause-found
returns-clause-found c = leads_end c.loop-text.invariant.leads (no_qualifier _ c.in_default.ensures.first)
