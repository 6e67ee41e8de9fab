use Rattle.std.proofs.Common.{true, false, sym, ◌∙◌}
use Rattle.po_lower_types.proofs.Combined.{steps_as}
use Rattle.po_lower_types.proofs.instrs.steps.Goals as goal

pub returns-then-is_address : goal.returns-then-is_address
returns-then-is_address c = λ f m. let a = c.args in c.moves_once.ensures f m ∙ steps_as f a.operator a.t.now a.v a.r.0 true (sym c.is_address.ensures ∙ c.if-is_address.true)

pub returns : goal.returns
returns c = λ f m. let a = c.args in c.computes.ensures ∙ steps_as f a.operator a.t.now a.v a.r.0 false (sym c.is_address.ensures ∙ c.if-is_address.false)
