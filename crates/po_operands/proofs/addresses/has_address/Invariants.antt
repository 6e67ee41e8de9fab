use Rattle.po_tree.specs.declared.expression.Exp.{out-Exp}
use Rattle.po_typed.specs.Expressions.{HasAddress}
use Rattle.po_operands.proofs.addresses.has_address.Given as goal

abbrev pub invariant-loop-inner : goal.invariant-loop-inner
invariant-loop-inner l = (HasAddress l.context (out-Exp l.inner) → HasAddress l.context (out-Exp l.x)) × (HasAddress l.context (out-Exp l.x) → HasAddress l.context (out-Exp l.inner))
