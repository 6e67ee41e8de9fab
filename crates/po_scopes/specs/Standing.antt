-- What stands in scopes, and what is in force where they are open.
use Rattle.std.specs.Prelude.{ℕ, List, [], ◌∷◌, ◌++◌, map, reverse, Option, Some, None}
use Rattle.po_base.specs.declared.numbers.GlobalNo.{GlobalNo}
use Rattle.po_types.specs.declared.ctype.CType.{CType}
use Rattle.po_types.specs.declared.env.Env.{Env}
use Rattle.po_typed.specs.Scopes.{Block, Context, Meaning, global, function, type_name, constant, Tag, struct_tag, enum_tag}
use Rattle.po_scopes.specs.declared.scopes.Scope.{Scope}
use Rattle.po_scopes.specs.Meanings.{as_local, as_tag}

-- what a scope of the code says
abbrev pub as_block : Scope → Block
as_block s = record { words = map (λ w. (w.0, as_local w.1)) s.words; tags = map (λ w. (w.0, as_tag w.1)) s.tags }

-- scopes, the innermost last, as blocks, the innermost first
abbrev pub blocks_of : List Scope → List Block
blocks_of scopes = map as_block (reverse scopes)

-- a block with one more word, or tag
abbrev pub and_word : List ℕ → Meaning → Block → Block
and_word name m b = record { words = b.words ++ (name, m) ∷ []; tags = b.tags }

abbrev pub and_tag : List ℕ → Tag → Block → Block
and_tag name t b = record { words = b.words; tags = b.tags ++ (name, t) ∷ [] }

abbrev pub global_meaning : (CType × Option GlobalNo) → Meaning
global_meaning (t, None) = function t
global_meaning (t, Some n) = global t n.0

-- the words of the file's scope: objects and functions, typedef names, enumerators
abbrev pub file_words : Env → List (List ℕ × Meaning)
file_words env =
    map (λ w. (w.0, global_meaning w.1)) env.globals ++ (map (λ w. (w.0, type_name w.1.0 w.1.1)) env.typedefs ++ map (λ w. (w.0, constant w.1)) env.constants)

-- its tags: those of structs and those of enumerations
abbrev pub file_tags : Env → List (List ℕ × Tag)
file_tags env = map (λ w. (w.0, struct_tag w.1)) env.tags ++ map (λ tag. (tag, enum_tag)) env.enums

abbrev pub file_block : Env → Block
file_block env = record { words = file_words env; tags = file_tags env }

-- what is in force where these scopes are open inside the file's
abbrev pub in_force : Env → List Block → Context
in_force env blocks =
    record { target = env.target; structs = env.structs; members = env.members; names = env.names; blocks = blocks ++ file_block env ∷ [] }
