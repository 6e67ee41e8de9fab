use Rattle.std.specs.Prelude.{List}
use Rattle.std.proofs.Common.{subst, sym}
use Rattle.po_memory.specs.declared.value.Value.{Value}
use Rattle.po_meaning.specs.Operands.{ArePassed}
use Rattle.po_step.proofs.Libraries.{called, can_pass, returns_with, stops}
use Rattle.po_step.proofs.carrying.carry_library.Goals as goal

pub passed-requires : goal.passed-requires
passed-requires g c =
    can_pass c.library_calls_pass.ensures (g.L.Library.meaning c.args.library.now) (g.L.Outcomes.signatures c.args.library.now) c.args.p.now c.args.f.now c.args.to c.args.lib c.args.args.now c.args.strings.now c.args.top.now c.args.waiting.now c.args.m.now.blocks
    c.requires c.parameters.result.now c.parameters.ensures

pub outcome-requires : goal.outcome-requires
outcome-requires g c = (
  c.args.p.now,
  called c.library_calls_pass.ensures (g.L.Library.meaning c.args.library.now) (g.L.Outcomes.signatures c.args.library.now) c.args.p.now c.args.f.now c.args.to c.args.lib c.args.args.now c.args.strings.now c.args.top.now c.args.waiting.now c.args.m.now.blocks
      c.requires c.parameters.result.now c.parameters.ensures c.as_slice.result.now
      (subst (λ (values : List Value). ArePassed c.args.top.now c.parameters.result.now c.args.args.now values) (sym c.as_slice.ensures) c.in_ok-values.ensures),
)

pub returns-in-Stop : goal.returns-in-Stop
returns-in-Stop g c =
    let passed = subst (λ (values : List Value). ArePassed c.args.top.now c.parameters.result.now c.args.args.now values) (sym c.as_slice.ensures) c.in_ok-values.ensures in
    stops c.library_calls_pass.ensures (g.L.Library.meaning c.args.library.now) (g.L.Outcomes.signatures c.args.library.now) c.args.p.now c.args.f.now c.args.to c.args.lib c.args.args.now c.args.strings.now c.args.top.now c.args.waiting.now c.args.m.now.blocks
    c.requires c.parameters.result.now c.parameters.ensures c.as_slice.result.now passed (g.L.Outcomes.outcomes c.args.library.now) c.outcome.new.m.blocks c.in_ok-outcome.field-0 c.in_ok-outcome.ensures.may c.in_ok-outcome.ensures.keeps c.in-Stop.is

pub returns : goal.returns
returns g c =
    let passed = subst (λ (values : List Value). ArePassed c.args.top.now c.parameters.result.now c.args.args.now values) (sym c.as_slice.ensures) c.in_ok-values.ensures in
    returns_with c.library_calls_pass.ensures (g.L.Library.meaning c.args.library.now) (g.L.Outcomes.signatures c.args.library.now) c.args.p.now c.args.f.now c.args.to c.args.lib c.args.args.now c.args.strings.now c.args.top.now c.args.waiting.now c.args.m.now.blocks
    c.requires c.parameters.result.now c.parameters.ensures c.as_slice.result.now passed (g.L.Outcomes.outcomes c.args.library.now) c.outcome.new.m.blocks c.in_ok-outcome.field-0 c.in_ok-outcome.ensures.may c.in_ok-outcome.ensures.keeps
    c.library_steps_stay.ensures c.in-Next.v c.receive.new.frame c.in-Next.is c.in_ok-receive-in-Next.ensures
