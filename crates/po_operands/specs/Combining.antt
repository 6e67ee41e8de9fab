-- What binary operators do with operands.
use Rattle.po_base.specs.declared.operators.Op.{Op}
use Rattle.po_base.specs.declared.operators.Op.TheVariants as op
use Rattle.po_types.specs.declared.ctype.CType.{CType}
use Rattle.po_typed.specs.Scopes.{Context}
use Rattle.po_typed.specs.Operands.{Combines}
use Rattle.po_operands.specs.declared.combining.Class.{Class}
use Rattle.po_operands.specs.declared.combining.Class.TheVariants as k
use Rattle.po_operands.specs.declared.combining.Combined.{Combined}

-- `Combines`, with what the operator gives and what its operands are converted to in one
abbrev pub CombinesTo : Context → Op → CType → CType → Combined → Type 0
CombinesTo ctx o t u p = Combines ctx o t u p.result p.left p.right

-- what an operator does with two numbers (6.5.5 to 6.5.12)
abbrev pub class_of : Op → Class
class_of op.Shl = k.Shift
class_of op.Shr = k.Shift
class_of op.Eq = k.Comparison
class_of op.Ne = k.Comparison
class_of op.Lt = k.Comparison
class_of op.Le = k.Comparison
class_of op.Gt = k.Comparison
class_of op.Ge = k.Comparison
class_of _ = k.Arithmetic
