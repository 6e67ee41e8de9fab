use Rattle.std.proofs.Common.{arith, refl, sym, ◌∙◌, subst, take_all}
use Rattle.std.proofs.lemmas.List.Elements.{All-more, All-same}
use Rattle.po_ir.specs.declared.graph.Node.{Node}
use Rattle.po_ir.specs.Valid.{NamesParts}
use Rattle.po_ir.proofs.validity.all_name_parts.Goals as goal

pub loop-node-preserved : goal.loop-node-preserved
loop-node-preserved c = All-more (λ (n : Node). NamesParts c.args.graph.now n.instr) _ c.loop-node.node-index c.node-item.result (omega arith) c.loop-node.invariant (subst (λ (n : Node). NamesParts c.args.graph.now n.instr) c.node-item.is (c.if-not-names_parts.ensures.0 refl))

pub returns : goal.returns
returns c = (λ _. All-same (λ (n : Node). NamesParts c.args.graph.now n.instr) _ _ (sym (take_all c.loop-node.node-index _ (omega arith) ∙ c.as_slice-node-items.ensures)) c.loop-node.invariant, λ _. refl)
