-- A typing of a compound expression consists of typings of its operands, of what these types make, and of the pairs in order.
use Rattle.std.specs.Prelude.{ℕ, ◌≡◌, ◌↔◌, List, [], ◌∷◌, ◌++◌, Some}
use Rattle.po_base.specs.declared.operators.Op.{Op}
use Rattle.po_tree.specs.declared.expression.Exp.{Exp, out-Exp}
use Rattle.po_tree.specs.declared.expression.Exp.TheOpen.{Exp-F}
use Rattle.po_tree.specs.declared.expression.TypeName.{TypeName}
use Rattle.po_types.specs.declared.ctype.CType.{CType}
use Rattle.po_types.specs.declared.format.Spec.{Spec}
use Rattle.po_typed.specs.Scopes.{Context}
use Rattle.po_typed.specs.Expressions.{Pair, pair, Types, Operand, Assigned, Prints, Named, IsLvalue}
use Rattle.po_type_parts.specs.Converting.{Assigns, Casts, Promotes, PrintsAs}
use Rattle.po_type_parts.specs.Designating.{Subscripts, HasMember, HasArrowMember}
use Rattle.po_type_parts.specs.Joining.{Joins, Compounds}

module _ (ctx : Context) where
  -- the operand is assigned to an object of the type t
  pub record OfAssigned (x : Exp) (t : CType) (ps : List Pair) : Type 0 where
    pub value : CType
    pub operand : Operand ctx x value t ps
    pub assigns : Assigns ctx x value t

  pub record OfCast (name : TypeName) (x : Exp) (t to : CType) (ps : List Pair) : Type 0 where
    pub value : CType
    pub conversion : CType
    pub before : List Pair
    pub behind : List Pair
    pub named : Named ctx name t before
    pub operand : Operand ctx x value conversion behind
    pub casts : Casts ctx x value t conversion
    pub pairs : ps ≡ pair t to ∷ (before ++ behind)

  pub record OfIndex (x y : Exp) (t to : CType) (ps : List Pair) : Type 0 where
    pub first : CType
    pub second : CType
    pub before : List Pair
    pub behind : List Pair
    pub first_operand : Operand ctx x first first before
    pub second_operand : Operand ctx y second second behind
    pub subscripts : Subscripts ctx first second t
    pub pairs : ps ≡ before ++ (pair t to ∷ behind)

  pub record OfDot (x : Exp) (name : List ℕ) (t to : CType) (ps : List Pair) : Type 0 where
    pub struct : CType
    pub before : List Pair
    pub operand : Types ctx (out-Exp x) struct struct before
    pub member : HasMember ctx struct name t
    pub pairs : ps ≡ before ++ (pair t to ∷ [])

  pub record OfArrow (x : Exp) (name : List ℕ) (t to : CType) (ps : List Pair) : Type 0 where
    pub pointer : CType
    pub before : List Pair
    pub operand : Operand ctx x pointer pointer before
    pub member : HasArrowMember ctx pointer name t
    pub pairs : ps ≡ before ++ (pair t to ∷ [])

  -- of `+`, `-` and `~`
  pub record OfPromoted (x : Exp) (t to : CType) (ps : List Pair) : Type 0 where
    pub value : CType
    pub behind : List Pair
    pub operand : Operand ctx x value t behind
    pub promotes : Promotes value t
    pub pairs : ps ≡ pair t to ∷ behind

  pub record OfBinary (o : Op) (x y : Exp) (t to : CType) (ps : List Pair) : Type 0 where
    pub first : CType
    pub second : CType
    pub left : CType
    pub right : CType
    pub before : List Pair
    pub behind : List Pair
    pub first_operand : Operand ctx x first left before
    pub second_operand : Operand ctx y second right behind
    pub joins : Joins ctx o x first y second t left right
    pub pairs : ps ≡ before ++ (pair t to ∷ behind)

  pub record OfCompound (o : Op) (x y : Exp) (t to : CType) (ps : List Pair) : Type 0 where
    pub value : CType
    pub left : CType
    pub right : CType
    pub before : List Pair
    pub behind : List Pair
    pub lvalue : IsLvalue ctx (out-Exp x)
    pub object : Types ctx (out-Exp x) t left before
    pub operand : Operand ctx y value right behind
    pub compounds : Compounds ctx o t value left right
    pub pairs : ps ≡ before ++ (pair t to ∷ behind)

  pub record OfPrinted (x : Exp) (xs : List Exp) (f : Spec) (fs : List Spec) (ps : List Pair) : Type 0 where
    pub value : CType
    pub conversion : CType
    pub before : List Pair
    pub behind : List Pair
    pub operand : Operand ctx x value conversion before
    pub prints_as : PrintsAs ctx.target f value conversion
    pub others : Prints ctx xs fs behind
    pub pairs : ps ≡ before ++ behind

pub record TypingsAreOfParts : Type 0 where
  pub assigned : (ctx : Context) (x : Exp) (t : CType) (ps : List Pair) → Assigned ctx x t ps ↔ OfAssigned ctx x t ps
  pub cast : (ctx : Context) (name : TypeName) (x : Exp) (t to : CType) (ps : List Pair) → Types ctx (Exp-F.Cast name x) t to ps ↔ OfCast ctx name x t to ps
  pub index : (ctx : Context) (x y : Exp) (t to : CType) (ps : List Pair) → Types ctx (Exp-F.Index x y) t to ps ↔ OfIndex ctx x y t to ps
  pub dot : (ctx : Context) (x : Exp) (name : List ℕ) (t to : CType) (ps : List Pair) → Types ctx (Exp-F.Dot x name) t to ps ↔ OfDot ctx x name t to ps
  pub arrow : (ctx : Context) (x : Exp) (name : List ℕ) (t to : CType) (ps : List Pair) → Types ctx (Exp-F.Arrow x name) t to ps ↔ OfArrow ctx x name t to ps
  pub plus : (ctx : Context) (x : Exp) (t to : CType) (ps : List Pair) → Types ctx (Exp-F.Plus x) t to ps ↔ OfPromoted ctx x t to ps
  pub minus : (ctx : Context) (x : Exp) (t to : CType) (ps : List Pair) → Types ctx (Exp-F.Minus x) t to ps ↔ OfPromoted ctx x t to ps
  pub complement : (ctx : Context) (x : Exp) (t to : CType) (ps : List Pair) → Types ctx (Exp-F.Compl x) t to ps ↔ OfPromoted ctx x t to ps
  pub binary : (ctx : Context) (o : Op) (x y : Exp) (t to : CType) (ps : List Pair) → Types ctx (Exp-F.Binary o x y) t to ps ↔ OfBinary ctx o x y t to ps
  pub compound : (ctx : Context) (o : Op) (x y : Exp) (t to : CType) (ps : List Pair) → Types ctx (Exp-F.Assign (Some o) x y) t to ps ↔ OfCompound ctx o x y t to ps
  pub printed : (ctx : Context) (x : Exp) (xs : List Exp) (f : Spec) (fs : List Spec) (ps : List Pair) → Prints ctx (x ∷ xs) (f ∷ fs) ps ↔ OfPrinted ctx x xs f fs ps
