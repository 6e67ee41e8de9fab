-- An environment lists what is in force at file level; each of its lists has its part of that, in order.
use Rattle.std.specs.Prelude.{ℕ, ◌≡◌, ◌↔◌, Bool, List, [], ◌∷◌, map, flat_map, Contains, Option, Some, None, ℤ}
use Rattle.po_base.specs.declared.numbers.GlobalNo.{GlobalNo}
use Rattle.po_types.specs.declared.ctype.CType.{CType}
use Rattle.po_types.specs.declared.env.Env.{Env}
use Rattle.po_typed.specs.declared.typed.TypedFun.{TypedFun}
use Rattle.po_typed.specs.Scopes.{Block, Meaning, global, function, type_name, constant, Tag, struct_tag, enum_tag}
use Rattle.po_typed.specs.Expressions.{Pair}
use Rattle.po_typed.specs.Declarations.{File}
use Rattle.po_typed.specs.Statements.{Defines}

-- objects and functions with their types, an object with its number
abbrev pub as_global : (List ℕ × Meaning) → List (List ℕ × (CType × Option GlobalNo))
as_global (name, global t n) = (name, (t, Some (record { 0 = n }))) ∷ []
as_global (name, function t) = (name, (t, None)) ∷ []
as_global _ = []

abbrev pub as_typedef : (List ℕ × Meaning) → List (List ℕ × (CType × Bool))
as_typedef (name, type_name t const) = (name, (t, const)) ∷ []
as_typedef _ = []

abbrev pub as_constant : (List ℕ × Meaning) → List (List ℕ × ℤ)
as_constant (name, constant v) = (name, v) ∷ []
as_constant _ = []

abbrev pub as_struct_tag : (List ℕ × Tag) → List (List ℕ × ℕ)
as_struct_tag (name, struct_tag n) = (name, n) ∷ []
as_struct_tag _ = []

-- the environment shows the file so far
pub record Shows (env : Env) (file : File) : Type 0 where
  pub block : Block
  pub one_scope : file.context.blocks ≡ block ∷ []
  pub target : env.target ≡ file.context.target
  pub structs : env.structs ≡ file.context.structs
  pub members : env.members ≡ file.context.members
  pub names : env.names ≡ file.context.names
  pub globals : env.globals ≡ flat_map as_global block.words
  pub typedefs : env.typedefs ≡ flat_map as_typedef block.words
  pub constants : env.constants ≡ flat_map as_constant block.words
  pub tags : env.tags ≡ flat_map as_struct_tag block.tags
  pub enums : (tag : List ℕ) → Contains env.enums tag ↔ Contains block.tags (tag, enum_tag)
  pub objects : env.objects ≡ file.objects
  pub initialised : (name : List ℕ) → Contains env.initialised name ↔ Contains file.initialised name

-- the definition's typing: each expression's type, and the type to which it is converted
pub record IsTyping (file : File) (t : TypedFun) : Type 0 where
  pub behind : File
  pub pairs : List Pair
  pub defines : Defines file t.tree behind pairs
  pub types : t.types ≡ map (λ p. p.type) pairs
  pub conversions : t.conversions ≡ map (λ p. p.conversion) pairs
