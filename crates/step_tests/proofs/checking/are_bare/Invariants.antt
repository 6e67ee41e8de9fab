use Rattle.std.specs.Prelude.{All, length, take}
use Rattle.po_ir.specs.declared.graph.Node.{Node}
use Rattle.step_tests.specs.Bare.{IsBare}
use Rattle.step_tests.proofs.checking.are_bare.Given as goal

abbrev pub invariant-loop-node : goal.invariant-loop-node
invariant-loop-node l = All (λ (n : Node). IsBare l.functions (length l.nodes) n.instr) (take l.node-index l.nodes)
