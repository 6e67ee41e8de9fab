use Rattle.std.proofs.Common.{◌∙◌, arith}
use Rattle.po_decl_states.specs.declared.state.Step.TheVariants as step
use Rattle.po_decl_read.proofs.Scopes.{lists_open, lists_closed, scope_open}
use Rattle.po_decl_read.proofs.Looping.{begin_leads, comes_along}
use Rattle.po_decl_read.proofs.read.read_inside.Goals as goal

pub loop-next-init : goal.loop-next-init
loop-next-init c = record {
  leads = begin_leads c.args.tokens.now.list c.args.from c.args.to c.args.names.now c.begin-state.result c.begin-state.ensures c.nothing_read_is_completed.ensures;
  lists = rw c.begin-state.ensures (omega arith);
  after = rw c.begin-state.ensures (omega arith);
}

pub take_step-requires : goal.take_step-requires
take_step-requires c = (scope_open _ _ _ _ _ c.requires c.loop-next.invariant.leads.reads.scoped, c.loop-next.invariant.lists)

pub loop-next-preserved : goal.loop-next-preserved
loop-next-preserved c =
    let on = rw c.in-Next.is at c.in_ok-next.ensures.on in
    let before = c.loop-next.invariant.after in
    record {
      leads = comes_along _ _ _ _ _ _ _ _ (step.Next c.in-Next.next) c.loop-next.invariant.leads (rw c.in-Next.is at c.in_ok-next.ensures.goes);
      lists = on.2 c.loop-next.invariant.lists;
      after = omega (arith, on.0, before);
    }

pub close_lists-requires : goal.close_lists-requires
close_lists-requires c =
    lists_open _ _ _ _ _ (comes_along _ _ _ _ _ _ _ _ (step.Whole c.in-Whole.d c.in-Whole.end) c.loop-next.invariant.leads (rw c.in-Whole.is at c.in_ok-next.ensures.goes)).1

pub returns-in-Whole-clause-found : goal.returns-in-Whole-clause-found
returns-in-Whole-clause-found c =
    (comes_along _ _ _ _ _ _ _ _ (step.Whole c.in-Whole.d c.in-Whole.end) c.loop-next.invariant.leads (rw c.in-Whole.is at c.in_ok-next.ensures.goes)).0.whole

pub returns-in-Whole-clause-kept : goal.returns-in-Whole-clause-kept
returns-in-Whole-clause-kept c = c.in_ok-close_lists-in-Whole.ensures ∙
    lists_closed _ _ _ _ _ (comes_along _ _ _ _ _ _ _ _ (step.Whole c.in-Whole.d c.in-Whole.end) c.loop-next.invariant.leads (rw c.in-Whole.is at c.in_ok-next.ensures.goes)).1

pub close_lists-requires-in-Stuck : goal.close_lists-requires-in-Stuck
close_lists-requires-in-Stuck c =
    lists_open _ _ _ _ _ (comes_along _ _ _ _ _ _ _ _ step.Stuck c.loop-next.invariant.leads (rw c.in-Stuck.is at c.in_ok-next.ensures.goes)).1

pub returns-in-Stuck-clause-none : goal.returns-in-Stuck-clause-none
returns-in-Stuck-clause-none c =
    (comes_along _ _ _ _ _ _ _ _ step.Stuck c.loop-next.invariant.leads (rw c.in-Stuck.is at c.in_ok-next.ensures.goes)).0

pub returns-in-Stuck-clause-kept : goal.returns-in-Stuck-clause-kept
returns-in-Stuck-clause-kept c = c.in_ok-close_lists-in-Stuck.ensures ∙
    lists_closed _ _ _ _ _ (comes_along _ _ _ _ _ _ _ _ step.Stuck c.loop-next.invariant.leads (rw c.in-Stuck.is at c.in_ok-next.ensures.goes)).1
