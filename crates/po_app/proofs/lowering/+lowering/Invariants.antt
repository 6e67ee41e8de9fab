use Rattle.std.proofs.Common.{◌*◌, ◌+◌, map, take}
use Rattle.po_straight.specs.Expressions.{height, greatest}
use Rattle.po_app.specs.Lowered.{AppendsAll}
use Rattle.po_app.proofs.lowering.+lowering.Given as goal

abbrev pub decreases-lower_expression : goal.decreases-lower_expression
decreases-lower_expression l = 2 * height l.x.now

abbrev pub decreases-lower_arguments : goal.decreases-lower_arguments
decreases-lower_arguments l = 2 * greatest (map height l.arguments.now) + 1

abbrev pub invariant-lower_arguments-loop-argument : goal.invariant-lower_arguments-loop-argument
invariant-lower_arguments-loop-argument l = AppendsAll l.file l.parameters (take l.argument-index l.arguments) l.initial.nodes l.nodes l.values
