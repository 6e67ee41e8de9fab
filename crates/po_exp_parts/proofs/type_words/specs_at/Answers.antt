use Rattle.std.proofs.Common.{arith}
use Rattle.po_tree.specs.Signs.{word}
use Rattle.po_exp_parts.specs.TypeWords.{specs_end}
use Rattle.po_exp_parts.proofs.Standing.{stands_first}
use Rattle.po_exp_parts.proofs.Leading.{leads_on, leads_end, leads_nowhere}
use Rattle.po_exp_parts.proofs.TypeWordsRead.{spec_leads, no_spec}
use Rattle.po_exp_parts.proofs.type_words.specs_at.Goals as goal

pub returns-in_default-2-clause-none : goal.returns-in_default-2-clause-none
returns-in_default-2-clause-none c =
    let here = stands_first c.loop-text.next c.args.tokens.now (word c.in-Some.text.now) c.in-Some.ensures in
    leads_nowhere c.loop-text.invariant.leads (no_spec here (rw c.in_default-2.is at c.in_ok-spec.ensures.none))

pub loop-text-preserved : goal.loop-text-preserved
loop-text-preserved c =
    let i = c.loop-text.invariant in
    let here = stands_first c.loop-text.next c.args.tokens.now (word c.in-Some.text.now) c.in-Some.ensures in
    let found = rw c.in-Some-2.is at c.in_ok-spec.ensures.found in
    let within = rw c.in-Some-2.is at c.in_ok-spec.ensures.within in
    record {
      leads = rw c.in_ok-push.ensures.ok (leads_on i.leads (spec_leads here found));
      after = omega (arith, i.after, within.0);
      within = within.1;
    }

pub returns-clause-found : goal.returns-clause-found
returns-clause-found c = leads_end c.loop-text.invariant.leads (specs_end _ _ c.in_default.ensures)
