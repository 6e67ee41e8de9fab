use Rattle.po_tree.specs.declared.expression.Exp.{out-Exp}
use Rattle.po_typed.specs.Expressions.{IsNullPointer}
use Rattle.po_choices.proofs.nulls.is_null_pointer.Given as goal

abbrev pub invariant-loop-inner : goal.invariant-loop-inner
invariant-loop-inner l = (IsNullPointer l.context (out-Exp l.inner) → IsNullPointer l.context (out-Exp l.x)) × (IsNullPointer l.context (out-Exp l.x) → IsNullPointer l.context (out-Exp l.inner))
