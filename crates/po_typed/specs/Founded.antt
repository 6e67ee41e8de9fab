-- The structs that types name are there, and the members of a struct without a tag name only structs that were declared before its body ended.
use Rattle.std.specs.Prelude.{ℕ, ◌≤◌, ◌≡◌, List, [], ◌∷◌, length, get_or, All, Option, None, IsSome}
use Rattle.po_types.specs.declared.env.Env.{Env}
use Rattle.po_types.specs.Nesting.{structs_below, IsWellFounded}
use Rattle.po_arith.specs.declared.target.Target.{Target}
use Rattle.po_tree.specs.declared.declaration.Decl.{Decl}
use Rattle.po_tree.specs.declared.function.FunTree.{FunTree}
use Rattle.po_typed.specs.Scopes.{Meaning, global, function, local, type_name, constant, Tag, struct_tag, enum_tag, Block, no_block, Context}
use Rattle.po_typed.specs.Expressions.{Pair}
use Rattle.po_typed.specs.Declarations.{File, DeclaredIn}
use Rattle.po_typed.specs.Statements.{Defines}
use Rattle.po_typed.specs.Environments.{Shows}

-- the least number above those of all structs that the type of a word names
abbrev pub meaning_below : Meaning → ℕ
meaning_below (global t n) = structs_below t
meaning_below (function t) = structs_below t
meaning_below (local s t) = structs_below t
meaning_below (type_name t const) = structs_below t
meaning_below (constant v) = 0

-- a struct's tag stands for a struct that has a tag
abbrev pub HasTag : List (Option (List ℕ)) → Tag → Type 0
HasTag names (struct_tag n) = IsSome (get_or names n None)
HasTag names enum_tag = Unit {0}

abbrev pub WordsFit : ℕ → Block → Type 0
WordsFit count b = All (λ w. meaning_below w.1 ≤ count) b.words

abbrev pub TagsFit : List (Option (List ℕ)) → Block → Type 0
TagsFit names b = All (λ x. HasTag names x.1) b.tags

-- what is in force at a place is founded
pub record IsFounded (ctx : Context) : Type 0 where
  pub named : length ctx.names ≡ length ctx.structs
  pub listed : length ctx.members ≡ length ctx.structs
  pub words : All (WordsFit (length ctx.structs)) ctx.blocks
  pub tags : All (TagsFit ctx.names) ctx.blocks
  pub untagged : (n : ℕ) → get_or ctx.names n None ≡ None → All (λ m. structs_below m.1 ≤ n) (get_or ctx.members n [])

-- declarations keep that what is in force is founded
abbrev pub DeclarationsKeepFounded : Type 0
DeclarationsKeepFounded = (file f : File) (d : Decl) → IsFounded file.context → DeclaredIn file d f → IsFounded f.context

-- so do definitions
abbrev pub DefinitionsKeepFounded : Type 0
DefinitionsKeepFounded = (file f : File) (tree : FunTree) (ps : List Pair) → IsFounded file.context → Defines file tree f ps → IsFounded f.context

-- before its first piece nothing is in force in a file
abbrev pub first_context : Target → Context
first_context target = record { target = target; structs = []; members = []; names = []; blocks = no_block ∷ [] }

abbrev pub FirstIsFounded : Type 0
FirstIsFounded = (target : Target) → IsFounded (first_context target)

-- an environment that shows what is founded is well founded
abbrev pub ShownIsWellFounded : Type 0
ShownIsWellFounded = (env : Env) (file : File) → Shows env file → IsFounded file.context → IsWellFounded env
