use Rattle.std.proofs.Common.{ap, ◌∙◌}
use Rattle.po_lowering.specs.Naming.{variable}
use Rattle.po_lower_forms.proofs.Values.{rule_register_name}
use Rattle.po_lower_forms.proofs.variables.variable_value.Goals as goal

pub returns-in-Reg : goal.returns-in-Reg
returns-in-Reg c = λ f s name p m h q. rule_register_name f s _ p name c.in-Reg.r (h.names ∙ ap variable c.in-Reg.is)
