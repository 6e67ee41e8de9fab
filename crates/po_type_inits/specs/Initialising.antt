-- What the initialiser of a scalar asks of an expression whose type is known (C99 6.7.8).
use Rattle.std.specs.Prelude.{◌≡◌, Bool, [], ◌∷◌}
use Rattle.po_tree.specs.declared.expression.Exp.{Exp}
use Rattle.po_tree.specs.declared.declaration.Init.{Init, out-Init}
use Rattle.po_tree.specs.declared.declaration.Init.TheOpen.{Init-F}
use Rattle.po_types.specs.declared.ctype.CType.{CType}
use Rattle.po_typed.specs.Scopes.{Context}
use Rattle.po_typed.specs.Initialisers.{IsScalar}
use Rattle.po_type_parts.specs.Converting.{Assigns}

-- IsSingle i x: the initialiser i is the expression x, perhaps in one pair of braces (6.7.8p11, p14)
pub data IsSingle : Init-F Init → Exp → Type 0 where
  single_alone : {x : Exp} → IsSingle (Init-F.One x) x
  single_in_braces : {y : Init} {x : Exp} {comma : Bool} → out-Init y ≡ Init-F.One x → IsSingle (Init-F.Many (y ∷ []) comma) x

-- a scalar takes what may be assigned to it: the expression x, a value of type v (6.7.8p11)
abbrev pub InitialisesScalar : Context → Exp → CType → CType → Type 0
InitialisesScalar ctx x v t = IsScalar t × Assigns ctx x v t
