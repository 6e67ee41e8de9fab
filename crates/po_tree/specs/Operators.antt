-- Operators: how they are written, and their levels (C99 6.5).
--
-- The levels: `,` 0; assignment 1; `? :` 2; `||` 3; `&&` 4; `|` 5; `^` 6; `&` 7; `==` 8; `<` 9; `<<` 10; `+` 11; `*` 12;
-- cast 13; unary 14; postfix and primary 15.
use Rattle.std.specs.Prelude.{ℕ, suc, Bool, true, false, IsTrue, List, ◌++◌, codes, Option, Some, None}
use Rattle.po_base.specs.declared.operators.Op.{Op}
use Rattle.po_base.specs.declared.operators.Op.TheVariants as op
use Rattle.po_tree.specs.declared.operator.Infix.{Infix}
use Rattle.po_tree.specs.declared.operator.Infix.TheVariants as i
use Rattle.po_tree.specs.declared.operator.Prefix.{Prefix}
use Rattle.po_tree.specs.declared.operator.Prefix.TheVariants as p
use Rattle.po_tree.specs.declared.operator.Postfix.{Postfix}
use Rattle.po_tree.specs.declared.operator.Postfix.TheVariants as q
use Rattle.po_tree.specs.declared.operator.Selector.{Selector}
use Rattle.po_tree.specs.declared.operator.Selector.TheVariants as s
use Rattle.po_tree.specs.declared.expression.Exp.{Exp}
use Rattle.po_tree.specs.declared.expression.Exp.TheVariants as e
use Rattle.po_tree.specs.Signs.{Sign, punct, sizeof}

abbrev pub op_text : Op → List ℕ
op_text op.Add = codes "+"
op_text op.Sub = codes "-"
op_text op.Mul = codes "*"
op_text op.Div = codes "/"
op_text op.Rem = codes "%"
op_text op.And = codes "&"
op_text op.Or = codes "|"
op_text op.Xor = codes "^"
op_text op.Shl = codes "<<"
op_text op.Shr = codes ">>"
op_text op.Eq = codes "=="
op_text op.Ne = codes "!="
op_text op.Lt = codes "<"
op_text op.Le = codes "<="
op_text op.Gt = codes ">"
op_text op.Ge = codes ">="

-- the levels of the binary operators (6.5.5 to 6.5.12)
abbrev pub op_level : Op → ℕ
op_level op.Mul = 12
op_level op.Div = 12
op_level op.Rem = 12
op_level op.Add = 11
op_level op.Sub = 11
op_level op.Shl = 10
op_level op.Shr = 10
op_level op.Lt = 9
op_level op.Le = 9
op_level op.Gt = 9
op_level op.Ge = 9
op_level op.Eq = 8
op_level op.Ne = 8
op_level op.And = 7
op_level op.Xor = 6
op_level op.Or = 5

-- the operators that an assignment may have (6.5.16)
abbrev pub is_compound : Op → Bool
is_compound op.Eq = false
is_compound op.Ne = false
is_compound op.Lt = false
is_compound op.Le = false
is_compound op.Gt = false
is_compound op.Ge = false
is_compound _ = true

abbrev pub IsWritten : Infix → Type 0
IsWritten (i.Set (Some o)) = IsTrue (is_compound o)
IsWritten _ = Unit {0}

abbrev pub set_text : Option Op → List ℕ
set_text None = codes "="
set_text (Some o) = op_text o ++ codes "="

abbrev pub infix_text : Infix → List ℕ
infix_text (i.Plain o) = op_text o
infix_text i.And = codes "&&"
infix_text i.Or = codes "||"
infix_text (i.Set o) = set_text o
infix_text i.Comma = codes ","

abbrev pub infix_sign : Infix → Sign
infix_sign o = punct (infix_text o)

abbrev pub level : Infix → ℕ
level (i.Plain o) = op_level o
level i.And = 4
level i.Or = 3
level (i.Set o) = 1
level i.Comma = 0

-- the least level of the left operand: that of the operator, which groups to the left, but for assignments (6.5.16)
abbrev pub least_left : Infix → ℕ
least_left (i.Set o) = 14
least_left o = level o

-- the least level of the right operand: above that of the operator, but for assignments, which group to the right
abbrev pub least_right : Infix → ℕ
least_right (i.Set o) = 1
least_right o = suc (level o)

abbrev pub joined : Infix → Exp → Exp → Exp
joined (i.Plain o) x y = e.Binary o x y
joined i.And x y = e.LogAnd x y
joined i.Or x y = e.LogOr x y
joined (i.Set o) x y = e.Assign o x y
joined i.Comma x y = e.Comma x y

abbrev pub prefix_sign : Prefix → Sign
prefix_sign p.Increment = punct (codes "++")
prefix_sign p.Decrement = punct (codes "--")
prefix_sign p.Address = punct (codes "&")
prefix_sign p.Indirection = punct (codes "*")
prefix_sign p.Plus = punct (codes "+")
prefix_sign p.Minus = punct (codes "-")
prefix_sign p.Complement = punct (codes "~")
prefix_sign p.Not = punct (codes "!")
prefix_sign p.Size = sizeof

-- the least level of the operand: a unary expression for `++`, `--` and `sizeof`, a cast for the others (6.5.3)
abbrev pub least_operand : Prefix → ℕ
least_operand p.Increment = 14
least_operand p.Decrement = 14
least_operand p.Size = 14
least_operand _ = 13

abbrev pub prefixed : Prefix → Exp → Exp
prefixed p.Increment x = e.PreInc x
prefixed p.Decrement x = e.PreDec x
prefixed p.Address x = e.Addr x
prefixed p.Indirection x = e.Deref x
prefixed p.Plus x = e.Plus x
prefixed p.Minus x = e.Minus x
prefixed p.Complement x = e.Compl x
prefixed p.Not x = e.Not x
prefixed p.Size x = e.SizeExp x

abbrev pub postfix_sign : Postfix → Sign
postfix_sign q.Increment = punct (codes "++")
postfix_sign q.Decrement = punct (codes "--")

abbrev pub postfixed : Postfix → Exp → Exp
postfixed q.Increment x = e.PostInc x
postfixed q.Decrement x = e.PostDec x

abbrev pub selector_sign : Selector → Sign
selector_sign s.Dot = punct (codes ".")
selector_sign s.Arrow = punct (codes "->")

abbrev pub selected : Selector → Exp → List ℕ → Exp
selected s.Dot x name = e.Dot x name
selected s.Arrow x name = e.Arrow x name
