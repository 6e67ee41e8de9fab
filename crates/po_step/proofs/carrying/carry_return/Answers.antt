use Rattle.std.specs.Prelude.{Bool}
use Rattle.std.proofs.Common.{subst}
use Rattle.po_ir.specs.declared.instr.Instr.{Instr}
use Rattle.po_step.specs.Stepping.{IsReadyAt, ReturnsOrEnds, state_of}
use Rattle.po_step.proofs.Carried.{can_return, have_blocks, returns_moved}
use Rattle.po_step.proofs.carrying.carry_return.Goals as goal

pub return_from-requires-clause-value : goal.return_from-requires-clause-value
return_from-requires-clause-value c =
    can_return c.states_follow.ensures c.steps_stay.ensures c.requires.ready.0 c.requires.ready.1 c.args.p.now c.args.f.now c.args.value.now (state_of c.args.top.now c.args.waiting.now c.args.m.now.blocks)
    (subst (λ (i : Instr). IsReadyAt c.requires.ready.0 c.requires.ready.1 c.args.p.now c.args.f.now i (state_of c.args.top.now c.args.waiting.now c.args.m.now.blocks)) c.requires.returning c.requires.ready.2)

pub return_from-requires-clause-blocks : goal.return_from-requires-clause-blocks
return_from-requires-clause-blocks c =
    have_blocks c.states_follow.ensures c.steps_stay.ensures c.requires.ready.0 c.requires.ready.1 c.args.p.now c.args.f.now c.args.instr.now (state_of c.args.top.now c.args.waiting.now c.args.m.now.blocks) c.requires.ready.2

pub returns-then-branch : goal.returns-then-branch
returns-then-branch c =
    returns_moved c.states_follow.ensures c.steps_stay.ensures c.requires.ready.0 c.requires.ready.1 c.args.p.now c.args.f.now c.args.instr.now c.args.value.now
    (state_of c.args.top.now c.args.waiting.now c.args.m.now.blocks) (state_of c.return_from.new.top c.return_from.new.waiting c.return_from.new.m.blocks) c.requires.returning c.requires.ready.2
    (subst (λ (b : Bool). ReturnsOrEnds b c.args.p.now c.args.f.now c.args.value.now (state_of c.args.top.now c.args.waiting.now c.args.m.now.blocks) (state_of c.return_from.new.top c.return_from.new.waiting c.return_from.new.m.blocks))
    c.if-branch.true c.in_ok-return_from.ensures)
