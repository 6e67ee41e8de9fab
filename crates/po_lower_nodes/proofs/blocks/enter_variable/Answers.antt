use Rattle.std.proofs.Common.{ap}
use Rattle.std.specs.Prelude.{Some}
use Rattle.po_ir.specs.declared.instr.Local.TheVariants as local
use Rattle.po_lowering.specs.Blocks.{enter_node}
use Rattle.po_lower_nodes.proofs.Groups.{enters_local, enters_nothing}
use Rattle.po_lower_nodes.proofs.blocks.enter_variable.Goals as goal

pub returns-in_ok-enter_local-in-Reg : goal.returns-in_ok-enter_local-in-Reg
returns-in_ok-enter_local-in-Reg c = enters_local _ _ c.args.spot.now (Some c.args.variable) (local.Reg c.in-Reg.r) (ap (λ v. enter_node (Some v) c.args.spot.now) c.in-Reg.is) c.in_ok-enter_local-in-Reg.ensures

pub returns-in_ok-enter_local-in-Slot : goal.returns-in_ok-enter_local-in-Slot
returns-in_ok-enter_local-in-Slot c = enters_local _ _ c.args.spot.now (Some c.args.variable) (local.Slot c.in-Slot.k) (ap (λ v. enter_node (Some v) c.args.spot.now) c.in-Slot.is) c.in_ok-enter_local-in-Slot.ensures

pub returns-in-Global : goal.returns-in-Global
returns-in-Global c = enters_nothing _ c.args.spot.now (Some c.args.variable) (ap (λ v. enter_node (Some v) c.args.spot.now) c.in-Global.is)
