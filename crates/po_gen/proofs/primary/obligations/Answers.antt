use Rattle.std.specs.Prelude.{All}
use Rattle.std.proofs.Common.{sym}
use Rattle.po_ir.specs.declared.graph.Node.{Node}
use Rattle.po_ir.specs.declared.project.Function.{Function}
use Rattle.po_ir.specs.IntTypes.{IsTypeOfTarget, types_in, HasTypesOfTarget}
use Rattle.po_gen.proofs.primary.obligations.Goals as goal
use Rattle.po_lists.proofs.Places.{all_at}

pub of_instr-requires-clause-graph : goal.of_instr-requires-clause-graph
of_instr-requires-clause-graph g c = all_at (λ (f : Function). HasTypesOfTarget f.graph) c.args.p.now.functions c.args.f.0 c.in-Some.function.now c.requires (sym c.in-Some.ensures.value)

pub of_instr-requires-clause-types : goal.of_instr-requires-clause-types
of_instr-requires-clause-types g c =
    let graph : HasTypesOfTarget c.in-Some.function.now.graph = all_at (λ (f : Function). HasTypesOfTarget f.graph) c.args.p.now.functions c.args.f.0 c.in-Some.function.now c.requires (sym c.in-Some.ensures.value) in
    all_at (λ (n : Node). All IsTypeOfTarget (types_in n.instr)) c.in-Some.function.now.graph.nodes c.args.n.0 c.in-Some-get.node.now graph.instructions (sym c.in-Some-get.ensures.value)
