-- Between which levels expressions are.
use Rattle.std.proofs.Common.{ℕ, ◌≤◌, List, arith}
use Rattle.po_base.specs.declared.operators.Op.{Op}
use Rattle.po_base.specs.declared.operators.Op.TheVariants as op
use Rattle.po_tree.specs.declared.operator.Infix.{Infix}
use Rattle.po_tree.specs.declared.operator.Infix.TheVariants as i
use Rattle.po_tree.specs.declared.expression.Exp.{Exp}
use Rattle.po_tree.specs.Operators.{op_level, level, least_left}
use Rattle.po_tree.specs.Expressions.{Formed, leaf, strings, paren, index, call, member, stepped, unary, size_of_type, cast, binary, conditional}

op_level_most : (o : Op) → op_level o ≤ 12
op_level_most op.Add = omega arith
op_level_most op.Sub = omega arith
op_level_most op.Mul = omega arith
op_level_most op.Div = omega arith
op_level_most op.Rem = omega arith
op_level_most op.And = omega arith
op_level_most op.Or = omega arith
op_level_most op.Xor = omega arith
op_level_most op.Shl = omega arith
op_level_most op.Shr = omega arith
op_level_most op.Eq = omega arith
op_level_most op.Ne = omega arith
op_level_most op.Lt = omega arith
op_level_most op.Le = omega arith
op_level_most op.Gt = omega arith
op_level_most op.Ge = omega arith

-- an operator between two operands has a level below that of a cast
pub level_most : (o : Infix) → level o ≤ 12
level_most (i.Plain o) = op_level_most o
level_most i.And = omega arith
level_most i.Or = omega arith
level_most (i.Set o) = omega arith
level_most i.Comma = omega arith

-- the left operand of an operator has no lower level than the operator
pub left_high : (o : Infix) → level o ≤ least_left o
left_high (i.Plain o) = omega arith
left_high i.And = omega arith
left_high i.Or = omega arith
left_high (i.Set o) = omega arith
left_high i.Comma = omega arith

-- no expression has a higher level than a primary expression
pub formed_level : {types : List (List ℕ)} {m : ℕ} {x : Exp} → Formed types m x → m ≤ 15
formed_level (leaf x sign is) = omega arith
formed_level (strings text texts all) = omega arith
formed_level (paren m x w) = omega arith
formed_level (index m x y w v) = omega arith
formed_level (call x xs w ws) = omega arith
formed_level (member s x name is w) = omega arith
formed_level (stepped q x w) = omega arith
formed_level (unary p m x h w) = omega arith
formed_level (size_of_type name w) = omega arith
formed_level (cast m name x h v w) = omega arith
formed_level (binary o m k x y is h g w v) = omega (arith, level_most o)
formed_level (conditional m n k x y z h g w v u) = omega arith
