-- The primary obligations of a node.
use Rattle.std.specs.Prelude.{◌++◌, List, [], Option, Some, None, slice_get}
use Rattle.po_base.specs.declared.numbers.FunNo.{FunNo}
use Rattle.po_base.specs.declared.numbers.NodeNo.{NodeNo}
use Rattle.po_ir.specs.declared.graph.Graph.{Graph}
use Rattle.po_ir.specs.declared.graph.Node.{Node}
use Rattle.po_ir.specs.declared.instr.Instr.{Instr}
use Rattle.po_ir.specs.declared.project.Function.{Function}
use Rattle.po_ir.specs.declared.project.Project.{Project}
use Rattle.po_pred.specs.declared.pred.Pred.{Pred}
use Rattle.po_gen.specs.Reads.{reads}
use Rattle.po_gen.specs.Asks.{Required, asks}

-- first that the register variables have values, then what the instruction asks
abbrev pub gen_instr : Required → Graph → Instr → List Pred
gen_instr required g i = reads g i ++ asks required g i

abbrev pub gen_node : Required → Graph → Option Node → List Pred
gen_node required g None = []
gen_node required g (Some node) = gen_instr required g node.instr

abbrev pub gen_in : Required → Option Function → NodeNo → List Pred
gen_in required None n = []
gen_in required (Some f) n = gen_node required f.graph (slice_get f.graph.nodes n.0)

-- the primary obligations of the node n of the function f, in the order in which they are checked; none where no such node is
abbrev pub gen : Required → Project → FunNo → NodeNo → List Pred
gen required p f n = gen_in required (slice_get p.functions f.0) n
