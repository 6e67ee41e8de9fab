use Rattle.std.proofs.Common.{subst}
use Rattle.po_lowering.specs.Typed.{type_at}
use Rattle.po_tree.specs.declared.expression.Exp.TheOpen.{Exp-F}
use Rattle.po_lower_forms.specs.Made.{AddsReading}
use Rattle.po_lower_forms.proofs.Values.{rule_object}
use Rattle.po_lower_forms.proofs.variables.memory_value.Goals as goal

pub returns : goal.returns
returns c = λ f s name p m h q.
    rule_object f s p (Exp-F.Var name) c.in_ok-at.at c.in_ok-v.v tt (c.in_ok-at.ensures f s name p h)
    (subst (λ z. AddsReading f c.variable_address.new.d c.read.new.d z (type_at f p) c.in_ok-at.at c.in_ok-v.v) h.has_spot (subst (λ z. AddsReading f c.variable_address.new.d c.read.new.d c.args.spot.now z c.in_ok-at.at c.in_ok-v.v) q (c.in_ok-v.ensures f m)))
