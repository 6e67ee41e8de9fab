use Rattle.std.proofs.Common.{◌≤◌}
use Rattle.po_tree.specs.declared.expression.Exp.{out-Exp, size-Exp}
use Rattle.po_typed.specs.Expressions.{IsForm}
use Rattle.po_choices.proofs.forms.+is_form.Given as goal

abbrev pub invariant-loop-inner : goal.invariant-loop-inner
invariant-loop-inner l = (IsForm l.context (out-Exp l.inner) → IsForm l.context (out-Exp l.x)) × (IsForm l.context (out-Exp l.x) → IsForm l.context (out-Exp l.inner)) × (size-Exp l.inner ≤ size-Exp l.x)
