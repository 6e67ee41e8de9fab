use Rattle.std.proofs.Common.{◌∙◌}
use Rattle.po_lower_types.proofs.Combined.{step_back, step_on}
use Rattle.po_lower_types.proofs.instrs.moves_once.Goals as goal

pub returns-in-Sub : goal.returns-in-Sub
returns-in-Sub c = λ f m. let a = c.args in c.moves_back.ensures f m ∙ step_back f a.operator a.t.now a.v a.r.0 c.in-Sub.is

pub returns-in_default : goal.returns-in_default
returns-in_default c = λ f m. let a = c.args in c.moves.ensures f m ∙ step_on f a.operator a.t.now a.v a.r.0 c.in_default.not-Sub
