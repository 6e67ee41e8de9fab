-- What operators make of two operands (C99 6.5.5 to 6.5.12, 6.5.16.2).
use Rattle.std.specs.Prelude.{◌≡◌, Bool, true, false, [], ◌∷◌, Contains}
use Rattle.po_arith.specs.declared.int_type.IntType.{IntType}
use Rattle.po_base.specs.declared.operators.Op.{Op}
use Rattle.po_base.specs.declared.operators.Op.TheVariants as op
use Rattle.po_tree.specs.declared.expression.Exp.{Exp, out-Exp}
use Rattle.po_types.specs.declared.ctype.CType.{CType}
use Rattle.po_types.specs.declared.ctype.CType.TheVariants as c
use Rattle.po_typed.specs.Scopes.{Context}
use Rattle.po_typed.specs.Operands.{IsComplete, Combines, equality_operators, compound_operators}
use Rattle.po_typed.specs.Expressions.{IsNull, int}
use Rattle.po_operands.specs.declared.combining.Combined.{Combined}

-- whether an operator stands in a compound assignment (6.5.16)
abbrev pub is_compound : Op → Bool
is_compound op.Eq = false
is_compound op.Ne = false
is_compound op.Lt = false
is_compound op.Le = false
is_compound op.Gt = false
is_compound op.Ge = false
is_compound _ = true

-- Joins ctx o x u y v r a b: the operator gives r of the operands x and y, values of the types u and v, which are converted to a and b
pub data Joins (ctx : Context) : Op → Exp → CType → Exp → CType → CType → CType → CType → Type 0 where
  joins_values : {o : Op} {x y : Exp} {u v r a b : CType} → Combines ctx o u v r a b → Joins ctx o x u y v r a b
  -- 6.5.9p2, p5: a pointer and the constant 0
  joins_zero_right : {o : Op} {x y : Exp} (t : CType) (s : IntType) → Contains equality_operators o → IsNull ctx (out-Exp y) →
      Joins ctx o x (c.Ptr t) y (c.Int s) int (c.Ptr t) (c.Ptr t)
  joins_zero_left : {o : Op} {x y : Exp} (t : CType) (s : IntType) → Contains equality_operators o → IsNull ctx (out-Exp x) →
      Joins ctx o x (c.Int s) y (c.Ptr t) int (c.Ptr t) (c.Ptr t)

-- the same, with what the operator gives and what its operands are converted to in one
abbrev pub JoinsTo : Context → Op → Exp → CType → Exp → CType → Combined → Type 0
JoinsTo ctx o x u y v p = Joins ctx o x u y v p.result p.left p.right

-- a pointer of type t and a number that is the constant 0 are both the pointer
pub record WithZero (ctx : Context) (x : Exp) (t : CType) (p : Combined) : Type 0 where
  pub zero : IsNull ctx (out-Exp x)
  pub result : p.result ≡ int
  pub left : p.left ≡ t
  pub right : p.right ≡ t

-- one operand is a pointer and the other one the constant 0
pub data ComparesWithZero (ctx : Context) : Exp → CType → Exp → CType → Combined → Type 0 where
  zero_on_the_right : {x y : Exp} (t : CType) (s : IntType) {p : Combined} → WithZero ctx y (c.Ptr t) p → ComparesWithZero ctx x (c.Ptr t) y (c.Int s) p
  zero_on_the_left : {x y : Exp} (t : CType) (s : IntType) {p : Combined} → WithZero ctx x (c.Ptr t) p → ComparesWithZero ctx x (c.Int s) y (c.Ptr t) p

-- Compounds ctx o t v a b: a compound assignment converts the object of type t to a, and the value of type v to b, for its operator (6.5.16.2p1 to p3)
pub data Compounds (ctx : Context) : Op → CType → CType → CType → CType → Type 0 where
  compounds_number : {o : Op} (s t : IntType) {r a b : CType} → Contains compound_operators o → Combines ctx o (c.Int s) (c.Int t) r a b →
      Compounds ctx o (c.Int s) (c.Int t) a b
  compounds_pointer : {o : Op} (t : CType) (s : IntType) → Contains (op.Add ∷ op.Sub ∷ []) o → IsComplete ctx t →
      Compounds ctx o (c.Ptr t) (c.Int s) (c.Ptr t) (c.Int s)

-- a binary operator converts values of the types t and v to these two
abbrev pub Converts : Context → Op → CType → CType → (CType × CType) → Type 0
Converts ctx o t v p = (r : CType) × Combines ctx o t v r p.0 p.1
