use Rattle.std.proofs.Common.{arith, refl, sym, subst, length, take_all}
use Rattle.std.proofs.lemmas.List.Elements.{All-more, All-same}
use Rattle.po_ir.specs.declared.graph.Node.{Node}
use Rattle.step_tests.specs.Bare.{IsBare}
use Rattle.step_tests.proofs.checking.are_bare.Goals as goal

pub loop-node-preserved : goal.loop-node-preserved
loop-node-preserved c = All-more (λ (n : Node). IsBare c.args.functions (length c.args.nodes.now) n.instr) c.args.nodes.now c.loop-node.node-index c.node-item.result (omega arith) c.loop-node.invariant
    (subst (λ (n : Node). IsBare c.args.functions (length c.args.nodes.now) n.instr) c.node-item.is (c.if-not-is_bare.ensures refl))

pub returns : goal.returns
returns c = λ _. All-same (λ (n : Node). IsBare c.args.functions (length c.args.nodes.now) n.instr) _ _ (sym (take_all c.loop-node.node-index c.args.nodes.now (omega arith))) c.loop-node.invariant
