use Rattle.std.proofs.Common.{take}
use Rattle.std.specs.Prelude.{All}
use Rattle.po_ir.specs.declared.graph.Node.{Node}
use Rattle.po_ir.specs.Valid.{NamesParts}
use Rattle.po_ir.proofs.validity.all_name_parts.Given as goal

abbrev pub invariant-loop-node : goal.invariant-loop-node
invariant-loop-node l = All (λ (n : Node). NamesParts l.graph n.instr) (take l.node-index l.node-items)
