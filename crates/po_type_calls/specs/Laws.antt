-- A typing of a call consists of typings of its arguments, of what their types make, and of the pairs in order (C99 6.5.2.2).
use Rattle.std.specs.Prelude.{◌≡◌, ◌↔◌, List, [], ◌∷◌, ◌++◌}
use Rattle.po_tree.specs.declared.expression.Exp.{Exp}
use Rattle.po_tree.specs.declared.expression.Exp.TheOpen.{Exp-F}
use Rattle.po_types.specs.declared.ctype.CType.{CType}
use Rattle.po_types.specs.declared.format.Spec.{Spec}
use Rattle.po_typed.specs.Scopes.{Context}
use Rattle.po_typed.specs.Expressions.{Pair, pair, Types, Operand, Passes, Prints}
use Rattle.po_type_calls.specs.Calling.{PassesAs, PrintsAll, Calls}
use Rattle.po_type_calls.specs.declared.calling.Called.{Called}

-- Operands ctx xs vs bs ps: the expressions xs are values of the types vs, which are converted to bs, and ps are their pairs in order
pub data Operands (ctx : Context) : List Exp → List CType → List CType → List Pair → Type 0 where
  no_more_operands : Operands ctx [] [] [] []
  one_more_operand : {x : Exp} {xs : List Exp} {v b : CType} {vs bs : List CType} {ps qs : List Pair} → Operand ctx x v b ps → Operands ctx xs vs bs qs →
      Operands ctx (x ∷ xs) (v ∷ vs) (b ∷ bs) (ps ++ qs)

module _ (ctx : Context) where
  -- arguments, each assigned to its parameter
  pub record OfPassed (xs : List Exp) (ts : List CType) (ps : List Pair) : Type 0 where
    pub values : List CType
    pub operands : Operands ctx xs values ts ps
    pub passes : PassesAs ctx xs values ts

  -- arguments that a format reads
  pub record OfPrints (xs : List Exp) (fs : List Spec) (ps : List Pair) : Type 0 where
    pub values : List CType
    pub conversions : List CType
    pub operands : Operands ctx xs values conversions ps
    pub prints : PrintsAll ctx.target fs values conversions

  pub record OfCall (x : Exp) (xs : List Exp) (t to : CType) (ps : List Pair) : Type 0 where
    pub values : List CType
    pub called : Called
    pub behind : List Pair
    pub operands : Operands ctx xs values called.conversions behind
    pub calls : Calls ctx x xs values called
    pub type : t ≡ called.result
    pub pairs : ps ≡ pair called.function called.function ∷ (pair t to ∷ behind)

pub record TypingsOfCalls : Type 0 where
  pub passed : (ctx : Context) (xs : List Exp) (ts : List CType) (ps : List Pair) → Passes ctx xs ts ps ↔ OfPassed ctx xs ts ps
  pub printed : (ctx : Context) (xs : List Exp) (fs : List Spec) (ps : List Pair) → Prints ctx xs fs ps ↔ OfPrints ctx xs fs ps
  pub call : (ctx : Context) (x : Exp) (xs : List Exp) (t to : CType) (ps : List Pair) → Types ctx (Exp-F.Call x xs) t to ps ↔ OfCall ctx x xs t to ps
