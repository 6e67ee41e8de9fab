-- What typing says of a definition, which is all that its graph depends on.
use Rattle.std.specs.Prelude.{ℕ, ℤ, Bool, List, [], get_or, Option}
use Rattle.po_base.specs.declared.spot.Spot.{Spot}
use Rattle.po_tree.specs.declared.expression.Exp.{Exp}
use Rattle.po_tree.specs.declared.function.FunTree.{FunTree}
use Rattle.po_types.specs.declared.ctype.CType.{CType}
use Rattle.po_types.specs.declared.ctype.CType.TheVariants as c
use Rattle.po_lowering.specs.Places.{Place, head_of}

-- what a declarator of the body declares: a type, whether it is const, and how the type is spelled
pub record Declared : Type 0 where
  pub type : CType
  pub constant : Bool
  pub spelling : List ℕ

-- a member of a struct
pub record Part : Type 0 where
  pub name : List ℕ
  pub type : CType
  pub offset : ℕ

pub record Typed : Type 0 where
  pub tree : FunTree
  -- of each expression, in the order of their heads: its type, and the type that it is converted to
  pub types : List CType
  pub conversions : List CType
  -- by the number of an expression: the value of a constant, a sizeof, an enumerator or a case's expression; for a call of printf, which of its
  -- arguments its format reads by `%s`
  pub constants : ℕ → Option ℤ
  pub strings : ℕ → List ℕ
  -- of the parameters, and of the body's declarators in their order
  pub parameters : List CType
  pub variables : List Declared
  pub result : CType
  -- in bytes; the members of a struct in their order
  pub size : CType → ℕ
  pub align : CType → ℕ
  pub parts : ℕ → List Part
  -- the file's objects by their names, and how many objects and literals come before this definition
  pub global : List ℕ → Option ℕ
  pub objects : ℕ
  pub texts : ℕ

-- the type of the expression whose head stands at a place
unfoldable pub type_at : Typed → Place → CType
type_at f p = get_or f.types p.number c.Void

-- the type of an expression that begins at a place, and the type that it is converted to
unfoldable pub type_of : Typed → Exp → Place → CType
type_of f x p = type_at f (head_of x p)

unfoldable pub conversion_of : Typed → Exp → Place → CType
conversion_of f x p = get_or f.conversions (head_of x p).number c.Void

abbrev pub marked : FunTree → (ℕ × ℕ) → Spot
marked tree (name, line) = record { file = get_or tree.names name []; line = line }

-- the file and the line of the token at a place
unfoldable pub spot_at : Typed → Place → Spot
spot_at f p = marked f.tree (get_or f.tree.marks p.token (0, 0))
