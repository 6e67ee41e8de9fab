use Rattle.std.proofs.Common.{refl, sym, ◌∙◌}
use Rattle.po_lower_parts.proofs.Rules.{read_address}
use Rattle.po_lower_parts.proofs.parts.read.Goals as goal

pub returns : goal.returns
returns c = λ f m. read_address f _ _ c.args.spot.now c.args.t.now c.args.v refl (sym c.is_scalar.ensures ∙ c.if-is_scalar.false)
