use Rattle.std.proofs.Common.{take}
use Rattle.po_lower_nodes.specs.Groups.{AddsRow, enter_nodes}
use Rattle.po_lower_nodes.proofs.blocks.enter_all.Given as goal

abbrev pub invariant-loop-variable : goal.invariant-loop-variable
invariant-loop-variable l = AddsRow l.initial.d l.d (λ g. enter_nodes (take l.variable-index l.variables))
