use Rattle.std.proofs.Common.{ap}
use Rattle.std.specs.Prelude.{Some}
use Rattle.po_lowering.specs.Blocks.{enter_node}
use Rattle.po_lower_nodes.proofs.Groups.{enters_same, enters_nothing}
use Rattle.po_lower_nodes.proofs.blocks.enter.Goals as goal

pub returns-in_ok-enter_variable-in-Some : goal.returns-in_ok-enter_variable-in-Some
returns-in_ok-enter_variable-in-Some c = enters_same _ _ c.args.spot.now c.args.kept (Some c.in-Some.variable) c.in-Some.is c.in_ok-enter_variable-in-Some.ensures

pub returns-in-None : goal.returns-in-None
returns-in-None c = enters_nothing _ c.args.spot.now c.args.kept (ap (λ v. enter_node v c.args.spot.now) c.in-None.is)
