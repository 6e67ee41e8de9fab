use Rattle.std.specs.Prelude.{Bool}
use Rattle.std.proofs.Common.{subst}
use Rattle.po_meaning.specs.Local.{Local}
use Rattle.po_operate.specs.Finding.{Follows}
use Rattle.po_step.specs.Stepping.{state_of}
use Rattle.po_step.proofs.Carried.{local_moved, never_stuck}
use Rattle.po_step.proofs.Ready.{ready}
use Rattle.po_step.proofs.carrying.carry_local.Goals as goal

pub local-requires : goal.local-requires
local-requires c = ready c.requires.ready.0 c.requires.ready.1 c.args.p.now c.args.f.now c.args.instr.now (state_of c.args.top.now c.args.waiting.now c.args.m.now.blocks) c.requires.ready.2

pub unreachable-requires : goal.unreachable-requires
unreachable-requires c =
    never_stuck c.states_follow.ensures c.steps_stay.ensures c.requires.ready.0 c.requires.ready.1 c.args.p.now c.args.f.now c.args.instr.now (state_of c.args.top.now c.args.waiting.now c.args.m.now.blocks) c.requires.ready.2 c.requires.stays
    (subst (λ (b : Bool). Follows b (Local c.args.p.now c.args.f.now.graph c.args.instr.now c.args.top.now c.args.m.now.blocks) c.local.new.frame c.local.new.m.blocks) c.if-not-done.true c.in_ok-done.ensures)

pub returns : goal.returns
returns c =
    local_moved c.states_follow.ensures c.steps_stay.ensures c.requires.ready.0 c.requires.ready.1 c.args.p.now c.args.f.now c.args.instr.now c.args.top.now c.local.new.frame c.args.waiting.now c.args.m.now.blocks c.local.new.m.blocks c.requires.ready.2
    (subst (λ (b : Bool). Follows b (Local c.args.p.now c.args.f.now.graph c.args.instr.now c.args.top.now c.args.m.now.blocks) c.local.new.frame c.local.new.m.blocks) c.if-not-done.false c.in_ok-done.ensures)
