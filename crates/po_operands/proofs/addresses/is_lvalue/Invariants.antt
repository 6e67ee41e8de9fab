use Rattle.po_tree.specs.declared.expression.Exp.{out-Exp}
use Rattle.po_typed.specs.Expressions.{IsLvalue}
use Rattle.po_operands.proofs.addresses.is_lvalue.Given as goal

abbrev pub invariant-loop-inner : goal.invariant-loop-inner
invariant-loop-inner l = (IsLvalue l.context (out-Exp l.inner) → IsLvalue l.context (out-Exp l.x)) × (IsLvalue l.context (out-Exp l.x) → IsLvalue l.context (out-Exp l.inner))
