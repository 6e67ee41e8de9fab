use Rattle.po_tree.specs.declared.expression.Exp.{out-Exp}
use Rattle.po_typed.specs.Expressions.{IsNull}
use Rattle.po_choices.proofs.nulls.is_null.Given as goal

abbrev pub invariant-loop-inner : goal.invariant-loop-inner
invariant-loop-inner l = (IsNull l.context (out-Exp l.inner) → IsNull l.context (out-Exp l.x)) × (IsNull l.context (out-Exp l.x) → IsNull l.context (out-Exp l.inner))
