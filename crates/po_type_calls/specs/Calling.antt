-- What a call asks of its arguments, whose types are known (C99 6.5.2.2, 7.19.6.3).
use Rattle.std.specs.Prelude.{ℕ, ◌≡◌, ◌⊎◌, List, [], ◌∷◌, codes, false}
use Rattle.po_arith.specs.declared.target.Target.{Target}
use Rattle.po_tree.specs.declared.expression.Exp.{Exp, out-Exp}
use Rattle.po_tree.specs.declared.expression.Exp.TheOpen.{Exp-F}
use Rattle.po_types.specs.declared.ctype.CType.{CType}
use Rattle.po_types.specs.declared.ctype.CType.TheVariants as c
use Rattle.po_types.specs.declared.format.Spec.{Spec}
use Rattle.po_types.specs.declared.format.Spec.TheVariants as f
use Rattle.po_types.specs.Formats.{IsFormat}
use Rattle.po_typed.specs.Scopes.{Context}
use Rattle.po_typed.specs.Constants.{AreStrings}
use Rattle.po_typed.specs.Expressions.{int, printf_type}
use Rattle.po_type_parts.specs.Converting.{Assigns, PrintsAs}
use Rattle.po_type_parts.specs.Designating.{IsCallee}
use Rattle.po_type_calls.specs.declared.calling.Called.{Called}

-- PassesAs ctx xs vs ts: the arguments xs, values of the types vs, are as many as the parameters, and each may be assigned to its parameter, of a type of ts (6.5.2.2p2, p7)
pub data PassesAs (ctx : Context) : List Exp → List CType → List CType → Type 0 where
  passes_none : PassesAs ctx [] [] []
  passes_one : {x : Exp} {xs : List Exp} {v t : CType} {vs ts : List CType} → Assigns ctx x v t → PassesAs ctx xs vs ts → PassesAs ctx (x ∷ xs) (v ∷ vs) (t ∷ ts)

-- PrintsAll target fs vs bs: what reads arguments of these kinds takes values of the types vs, which are converted to bs (7.19.6.1p2, p9, 6.5.2.2p6)
pub data PrintsAll (target : Target) : List Spec → List CType → List CType → Type 0 where
  prints_none : PrintsAll target [] [] []
  prints_one : {g : Spec} {fs : List Spec} {v a : CType} {vs bs : List CType} → PrintsAs target g v a → PrintsAll target fs vs bs →
      PrintsAll target (g ∷ fs) (v ∷ vs) (a ∷ bs)

-- string literals that are a format, and what it reads (7.19.6.1p3)
pub record IsFormatOf (target : Target) (x : Exp) (fs : List Spec) : Type 0 where
  pub texts : List (List ℕ)
  pub values : List ℕ
  pub literal : out-Exp x ≡ Exp-F.Str texts
  pub are_strings : AreStrings texts values
  pub reads : IsFormat target values fs

-- The first argument is a format. With the format itself, which is read as a text, it reads fs.
pub record Formats (target : Target) (xs : List Exp) (fs : List Spec) : Type 0 where
  pub first : Exp
  pub others : List Exp
  pub reads : List Spec
  pub arguments : xs ≡ first ∷ others
  pub format : IsFormatOf target first reads
  pub all : fs ≡ f.Text ∷ reads

-- what arguments of printf, values of the types vs, are converted to
pub record Printed (ctx : Context) (xs : List Exp) (vs bs : List CType) : Type 0 where
  pub reads : List Spec
  pub formats : Formats ctx.target xs reads
  pub prints : PrintsAll ctx.target reads vs bs

-- a function that takes just its parameters
pub record CallsFunction (ctx : Context) (function : CType) (xs : List Exp) (vs : List CType) (p : Called) : Type 0 where
  pub taken : function ≡ c.Fun p.result p.conversions false
  pub passes : PassesAs ctx xs vs p.conversions
  pub same : p.function ≡ function

-- printf, the one function that takes further arguments
pub record CallsPrintf (ctx : Context) (x : Exp) (function : CType) (xs : List Exp) (vs : List CType) (p : Called) : Type 0 where
  pub named : out-Exp x ≡ Exp-F.Var (codes "printf")
  pub taken : function ≡ printf_type
  pub printed : Printed ctx xs vs p.conversions
  pub same : p.function ≡ function
  pub gives : p.result ≡ int

-- Calls ctx x xs vs p: x names a function, which is called with the arguments xs, values of the types vs
abbrev pub Calls : Context → Exp → List Exp → List CType → Called → Type 0
Calls ctx x xs vs p = (t : CType) × IsCallee ctx x t × (CallsFunction ctx t xs vs p ⊎ CallsPrintf ctx x t xs vs p)
