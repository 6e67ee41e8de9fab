use Rattle.std.proofs.Common.{ap, ◌∙◌}
use Rattle.po_types.specs.Types.{size_of}
use Rattle.po_operands.proofs.Told.{some_told}
use Rattle.po_operands.proofs.values.is_complete.Goals as goal

pub returns : goal.returns
returns c = some_told c.is_some.result c.size_of.result (size_of c.args.context.now.target c.args.context.now.structs c.args.t.now) c.is_some.ensures (c.size_of.ensures ∙ ap (λ z. size_of z c.structs.result.now c.args.t.now) c.target.ensures ∙ ap (λ z. size_of c.args.context.now.target z c.args.t.now) c.structs.ensures)
