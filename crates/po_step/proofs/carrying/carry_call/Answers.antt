use Rattle.std.specs.Prelude.{◌≡◌}
use Rattle.std.proofs.Common.{ap, subst, ◌∙◌}
use Rattle.po_ir.specs.declared.instr.Callee.{Callee}
use Rattle.po_ir.specs.declared.instr.Callee.TheVariants.{Fun}
use Rattle.po_ir.specs.declared.instr.Callee.TheVariants as target
use Rattle.po_ir.specs.declared.instr.Instr.{Instr}
use Rattle.po_ir.specs.declared.instr.Instr.TheVariants.{Call}
use Rattle.po_step.specs.Stepping.{IsReadyAt, Moved, state_of}
use Rattle.po_step.proofs.Carried.{call_enters, call_is_defined, enters_moved, on_ok_if}
use Rattle.po_step.proofs.carrying.carry_call.Goals as goal

pub unreachable-requires : goal.unreachable-requires
unreachable-requires c =
    let is : c.args.instr.now ≡ Call c.requires.call.0 (target.Extern c.in-Extern.field-0) c.args.args.now c.requires.call.1 = c.requires.call.2 ∙ ap (λ (k : Callee). Call c.requires.call.0 k c.args.args.now c.requires.call.1) c.in-Extern.is in
    call_is_defined c.states_follow.ensures c.steps_stay.ensures c.requires.ready.0 c.requires.ready.1 c.args.p.now c.args.f.now c.requires.call.0 c.in-Extern.field-0 c.args.args.now c.requires.call.1 (state_of c.args.top.now c.args.waiting.now c.args.m.now.blocks)
    (subst (λ (i : Instr). IsReadyAt c.requires.ready.0 c.requires.ready.1 c.args.p.now c.args.f.now i (state_of c.args.top.now c.args.waiting.now c.args.m.now.blocks)) is c.requires.ready.2)

pub enter-requires : goal.enter-requires
enter-requires c =
    let is : c.args.instr.now ≡ Call c.requires.call.0 (Fun c.in-Fun.n) c.args.args.now c.requires.call.1 = c.requires.call.2 ∙ ap (λ (k : Callee). Call c.requires.call.0 k c.args.args.now c.requires.call.1) c.in-Fun.is in
    call_enters c.states_follow.ensures c.steps_stay.ensures c.requires.ready.0 c.requires.ready.1 c.args.p.now c.args.f.now c.requires.call.0 c.in-Fun.n c.args.args.now c.requires.call.1 (state_of c.args.top.now c.args.waiting.now c.args.m.now.blocks)
    (subst (λ (i : Instr). IsReadyAt c.requires.ready.0 c.requires.ready.1 c.args.p.now c.args.f.now i (state_of c.args.top.now c.args.waiting.now c.args.m.now.blocks)) is c.requires.ready.2)

pub returns : goal.returns
returns c =
    let is : c.args.instr.now ≡ Call c.requires.call.0 (Fun c.in-Fun.n) c.args.args.now c.requires.call.1 = c.requires.call.2 ∙ ap (λ (k : Callee). Call c.requires.call.0 k c.args.args.now c.requires.call.1) c.in-Fun.is in
    on_ok_if c.enter.result _ (Moved c.args.p.now c.args.f.now c.args.instr.now (state_of c.args.top.now c.args.waiting.now c.args.m.now.blocks) (state_of c.enter.new.top c.enter.new.waiting c.args.m.now.blocks))
    (λ enters. enters_moved c.states_follow.ensures c.steps_stay.ensures c.requires.ready.0 c.requires.ready.1 c.args.p.now c.args.f.now c.args.instr.now c.requires.call.0 c.in-Fun.n c.args.args.now c.requires.call.1
    (state_of c.args.top.now c.args.waiting.now c.args.m.now.blocks) (state_of c.enter.new.top c.enter.new.waiting c.args.m.now.blocks) is c.requires.ready.2 (enters c.args.m.now.blocks))
    c.enter.ensures
