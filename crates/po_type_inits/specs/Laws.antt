-- A typing of a scalar's initialiser consists of a typing of its one expression and of what the types make (C99 6.7.8p11).
use Rattle.std.specs.Prelude.{◌≡◌, ◌↔◌, List}
use Rattle.po_tree.specs.declared.expression.Exp.{Exp}
use Rattle.po_tree.specs.declared.declaration.Init.{Init}
use Rattle.po_tree.specs.declared.declaration.Init.TheOpen.{Init-F}
use Rattle.po_types.specs.declared.ctype.CType.{CType}
use Rattle.po_typed.specs.Scopes.{Context}
use Rattle.po_typed.specs.Expressions.{Pair, Operand}
use Rattle.po_typed.specs.Initialisers.{Place, FitsPlace, IsScalar, Initialises}
use Rattle.po_type_inits.specs.Initialising.{IsSingle, InitialisesScalar}

-- the one expression, its value, and that it may stand there
pub record OfScalar (ctx : Context) (place : Place) (t : CType) (i : Init-F Init) (u : CType) (ps : List Pair) : Type 0 where
  pub expression : Exp
  pub value : CType
  pub single : IsSingle i expression
  pub operand : Operand ctx expression value t ps
  pub initialises : InitialisesScalar ctx expression value t
  pub fits : FitsPlace ctx place t expression
  pub same : u ≡ t

abbrev pub TypingsOfScalars : Type 0
TypingsOfScalars = (ctx : Context) (place : Place) (t : CType) (i : Init-F Init) (u : CType) (ps : List Pair) → IsScalar t → Initialises ctx place t i u ps ↔ OfScalar ctx place t i u ps
