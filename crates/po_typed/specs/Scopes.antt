-- What is in force at a place: the structs, the tags, and what identifiers mean (C99 6.2.1, 6.2.3).
use Rattle.std.specs.Prelude.{ℕ, ◌≡◌, Bool, List, [], ◌∷◌, ◌++◌, length, slice_set, ℤ, Option, Some, None}
use Rattle.po_arith.specs.declared.target.Target.{Target}
use Rattle.po_types.specs.declared.ctype.CType.{CType}
use Rattle.po_types.specs.declared.layout.Layout.{Layout}
use Rattle.po_types.specs.Tables.{found}

-- how an object is stored (6.2.4, 6.7.1)
pub data Storage : Type 0 where
  automatic : Storage
  in_register : Storage
  in_static : Storage

-- what an ordinary identifier means
pub data Meaning : Type 0 where
  -- an object of the file, by its number
  global : CType → ℕ → Meaning
  function : CType → Meaning
  -- a parameter, or an object of a block
  local : Storage → CType → Meaning
  -- a typedef name, and whether its type is const
  type_name : CType → Bool → Meaning
  -- an enumerator
  constant : ℤ → Meaning

-- what a tag stands for: a struct by its number, or an enumeration
pub data Tag : Type 0 where
  struct_tag : ℕ → Tag
  enum_tag : Tag

-- what was declared in one scope
pub record Block : Type 0 where
  pub words : List (List ℕ × Meaning)
  pub tags : List (List ℕ × Tag)

abbrev pub no_block : Block
no_block = record { words = []; tags = [] }

-- The structs by their numbers: the layout of each that is complete, its members, and its tag. Then the scopes, the innermost first.
pub record Context : Type 0 where
  pub target : Target
  pub structs : List (Option Layout)
  pub members : List (List (List ℕ × CType))
  pub names : List (Option (List ℕ))
  pub blocks : List Block

abbrev pub first_of : {A : Type 0} → Option A → Option A → Option A
first_of None other = other
first_of (Some x) other = Some x

-- what the innermost scope that has it says of a word, and of a tag (6.2.1p4)
abbrev pub word_in : List Block → List ℕ → Option Meaning
word_in [] name = None
word_in (b ∷ bs) name = first_of (found b.words name) (word_in bs name)

abbrev pub tag_in : List Block → List ℕ → Option Tag
tag_in [] name = None
tag_in (b ∷ bs) name = first_of (found b.tags name) (tag_in bs name)

abbrev pub meaning : Context → List ℕ → Option Meaning
meaning ctx name = word_in ctx.blocks name

abbrev pub tag_meaning : Context → List ℕ → Option Tag
tag_meaning ctx name = tag_in ctx.blocks name

-- what the innermost scope alone says
abbrev pub word_here : List Block → List ℕ → Option Meaning
word_here [] name = None
word_here (b ∷ bs) name = found b.words name

abbrev pub tag_here : List Block → List ℕ → Option Tag
tag_here [] name = None
tag_here (b ∷ bs) name = found b.tags name

-- the word isn't declared in the innermost scope (6.7p3)
abbrev pub IsNew : Context → List ℕ → Type 0
IsNew ctx name = word_here ctx.blocks name ≡ None

abbrev pub within_innermost : (Block → Block) → List Block → List Block
within_innermost f [] = []
within_innermost f (b ∷ bs) = f b ∷ bs

abbrev pub with_blocks : Context → List Block → Context
with_blocks ctx blocks = record { target = ctx.target; structs = ctx.structs; members = ctx.members; names = ctx.names; blocks = blocks }

-- the word declared, and the tag, in the innermost scope
abbrev pub with_word : List ℕ → Meaning → Context → Context
with_word name m ctx = with_blocks ctx (within_innermost (λ b. record { words = b.words ++ (name, m) ∷ []; tags = b.tags }) ctx.blocks)

abbrev pub with_tag : List ℕ → Tag → Context → Context
with_tag name t ctx = with_blocks ctx (within_innermost (λ b. record { words = b.words; tags = b.tags ++ (name, t) ∷ [] }) ctx.blocks)

-- a new scope inside, and the scopes of another place with the structs of this one
abbrev pub in_new_block : Context → Context
in_new_block ctx = with_blocks ctx (no_block ∷ ctx.blocks)

abbrev pub back_in : Context → Context → Context
back_in outside inside = with_blocks inside outside.blocks

-- a further struct, which isn't complete yet; its number is the count of the others
abbrev pub with_struct : Option (List ℕ) → Context → Context
with_struct tag ctx =
    record { target = ctx.target; structs = ctx.structs ++ None ∷ []; members = ctx.members ++ [] ∷ []; names = ctx.names ++ tag ∷ []; blocks = ctx.blocks }

abbrev pub next_struct : Context → ℕ
next_struct ctx = length ctx.structs

-- the struct of the number completed (6.7.2.3p4)
abbrev pub completed : ℕ → Layout → List (List ℕ × CType) → Context → Context
completed n layout members ctx =
    record { target = ctx.target; structs = slice_set ctx.structs n (Some layout); members = slice_set ctx.members n members; names = ctx.names; blocks = ctx.blocks }
