-- Which declarations are well formed, and which typedef names are in force behind them (C99 6.2.1, 6.7).
use Rattle.std.specs.Prelude.{ℕ, ◌≤◌, ◌≢◌, Bool, true, false, cond, IsTrue, List, [], ◌∷◌, All, Contains, codes, Option, Some, None}
use Rattle.std.specs.Str.{bytes_eq}
use Rattle.po_tree.specs.declared.expression.Exp.{Exp}
use Rattle.po_tree.specs.declared.expression.Specifier.{Specifier}
use Rattle.po_tree.specs.declared.expression.Specifier.TheVariants as sp
use Rattle.po_tree.specs.declared.expression.Suffix.{Suffix}
use Rattle.po_tree.specs.declared.expression.Suffix.TheVariants as su
use Rattle.po_tree.specs.declared.expression.Declarator.{Declarator}
use Rattle.po_tree.specs.declared.expression.Member.{Member, out-Member}
use Rattle.po_tree.specs.declared.expression.Param.{Param, out-Param}
use Rattle.po_tree.specs.declared.declaration.Init.{Init}
use Rattle.po_tree.specs.declared.declaration.Init.TheVariants as init
use Rattle.po_tree.specs.declared.declaration.Decl.{Decl}
use Rattle.po_tree.specs.Words.{IsName, storage_classes, type_words, qualifiers}
use Rattle.po_tree.specs.Expressions.{Typed, untyped, by_words, by_name, TakesWord, Formed, SuffixFormed}
use Rattle.po_tree.specs.Heights.{decl_height}

-- the names but this one, which something else hides (6.2.1p4)
abbrev pub without : List ℕ → List (List ℕ) → List (List ℕ)
without name [] = []
without name (x ∷ xs) = cond (bytes_eq x name) (without name xs) (x ∷ without name xs)

-- a declarator's word: a typedef name only behind a type specifier
abbrev pub IsDeclared : List (List ℕ) → Typed → List ℕ → Type 0
IsDeclared types seen name = IsName name × (Contains types name → seen ≢ untyped)

abbrev pub AreStars : List (List (List ℕ)) → Type 0
AreStars stars = All (All (Contains qualifiers)) stars

-- a tag, where it is written
pub data IsTag : Option (List ℕ) → Type 0 where
  no_tag : IsTag None
  tagged : (tag : List ℕ) → IsName tag → IsTag (Some tag)

-- The families below thread the typedef names in force: those before, and those behind.
mutual
  -- Specs outer free types seen specs types' seen': these specifiers may stand behind such ones. Storage classes and `inline` stand
  -- only in outer places, which are not in a struct; `free` says that a storage class may still come.
  pub data Specs : Bool → Bool → List (List ℕ) → Typed → List Specifier → List (List ℕ) → Typed → Type 0 where
    no_more_specs : (outer free : Bool) (types : List (List ℕ)) (seen : Typed) → Specs outer free types seen [] types seen
    storage_class : (outer : Bool) (types types' : List (List ℕ)) (seen seen' : Typed) (text : List ℕ) (rest : List Specifier) →
        Contains storage_classes text → Specs outer false types seen rest types' seen' →
        Specs outer true types seen (sp.Word text ∷ rest) types' seen'
    inline_word : (outer free : Bool) (types types' : List (List ℕ)) (seen seen' : Typed) (rest : List Specifier) →
        IsTrue outer → Specs outer free types seen rest types' seen' →
        Specs outer free types seen (sp.Word (codes "inline") ∷ rest) types' seen'
    qualifier : (outer free : Bool) (types types' : List (List ℕ)) (seen seen' : Typed) (text : List ℕ) (rest : List Specifier) →
        Contains qualifiers text → Specs outer free types seen rest types' seen' →
        Specs outer free types seen (sp.Word text ∷ rest) types' seen'
    type_word : (outer free : Bool) (types types' : List (List ℕ)) (seen seen' : Typed) (text : List ℕ) (rest : List Specifier) →
        Contains type_words text → TakesWord seen → Specs outer free types by_words rest types' seen' →
        Specs outer free types seen (sp.Word text ∷ rest) types' seen'
    typedef_name : (outer free : Bool) (types types' : List (List ℕ)) (seen' : Typed) (name : List ℕ) (rest : List Specifier) →
        IsName name → Contains types name → Specs outer free types by_name rest types' seen' →
        Specs outer free types untyped (sp.Named name ∷ rest) types' seen'
    -- 6.7.2.1, 6.7.2.3
    struct_tag : (outer free : Bool) (types types' : List (List ℕ)) (seen' : Typed) (tag : List ℕ) (rest : List Specifier) →
        IsName tag → Specs outer free types by_name rest types' seen' →
        Specs outer free types untyped (sp.Struct (Some tag) None ∷ rest) types' seen'
    struct_body : (outer free : Bool) (types inner types' : List (List ℕ)) (seen' : Typed) (tag : Option (List ℕ)) (m : Member) (ms : List Member) (rest : List Specifier) →
        IsTag tag → Members types (m ∷ ms) inner → Specs outer free inner by_name rest types' seen' →
        Specs outer free types untyped (sp.Struct tag (Some (m ∷ ms)) ∷ rest) types' seen'
    -- 6.7.2.2
    enum_tag : (outer free : Bool) (types types' : List (List ℕ)) (seen' : Typed) (tag : List ℕ) (rest : List Specifier) →
        IsName tag → Specs outer free types by_name rest types' seen' →
        Specs outer free types untyped (sp.Enum (Some tag) None false ∷ rest) types' seen'
    enum_body : (outer free more : Bool) (types inner types' : List (List ℕ)) (seen' : Typed) (tag : Option (List ℕ))
        (item : List ℕ × Option Exp) (items : List (List ℕ × Option Exp)) (rest : List Specifier) →
        IsTag tag → Enumerators types (item ∷ items) inner → Specs outer free inner by_name rest types' seen' →
        Specs outer free types untyped (sp.Enum tag (Some (item ∷ items)) more ∷ rest) types' seen'

  -- enumerators, each in force from its own end on; their values are conditional expressions
  pub data Enumerators : List (List ℕ) → List (List ℕ × Option Exp) → List (List ℕ) → Type 0 where
    no_more_items : (types : List (List ℕ)) → Enumerators types [] types
    item : (types types' : List (List ℕ)) (name : List ℕ) (rest : List (List ℕ × Option Exp)) →
        IsName name → Enumerators (without name types) rest types' → Enumerators types ((name, None) ∷ rest) types'
    valued_item : (m : ℕ) (types types' : List (List ℕ)) (name : List ℕ) (value : Exp) (rest : List (List ℕ × Option Exp)) →
        IsName name → 2 ≤ m → Formed types m value → Enumerators (without name types) rest types' →
        Enumerators types ((name, Some value) ∷ rest) types'

  -- members: specifiers without a storage class, and one declarator at least; their words hide nothing
  pub data Members : List (List ℕ) → List Member → List (List ℕ) → Type 0 where
    no_more_members : (types : List (List ℕ)) → Members types [] types
    members : (types inner types' : List (List ℕ)) (seen : Typed) (m : Member) (rest : List Member) →
        (out-Member m).specs ≢ [] → Specs false false types untyped (out-Member m).specs inner seen →
        (out-Member m).declarators ≢ [] → AllDeclarators inner seen (out-Member m).declarators →
        Members inner rest types' → Members types (m ∷ rest) types'

  pub data AllDeclarators : List (List ℕ) → Typed → List Declarator → Type 0 where
    no_more_declarators : (types : List (List ℕ)) (seen : Typed) → AllDeclarators types seen []
    one_more_declarator : (types : List (List ℕ)) (seen : Typed) (name : List ℕ) (inner : List (List ℕ)) (d : Declarator) (rest : List Declarator) →
        IsDeclarator types seen name d inner → AllDeclarators types seen rest → AllDeclarators types seen (d ∷ rest)

  -- A declarator of this word (6.7.5), and the typedef names in force at the end of its parameters, where it has any.
  pub data IsDeclarator : List (List ℕ) → Typed → List ℕ → Declarator → List (List ℕ) → Type 0 where
    declarator : (types : List (List ℕ)) (seen : Typed) (name : List ℕ) (stars : List (List (List ℕ))) (suffix : Suffix) (inner : List (List ℕ)) →
        IsDeclared types seen name → AreStars stars → IsSuffix types suffix inner →
        IsDeclarator types seen name (record { stars = stars; name = Some name; suffix = suffix }) inner

  pub data IsSuffix : List (List ℕ) → Suffix → List (List ℕ) → Type 0 where
    no_parameters : (types : List (List ℕ)) (suffix : Suffix) → SuffixFormed types suffix → IsSuffix types suffix types
    parameters : (types : List (List ℕ)) (params : List Param) (inner : List (List ℕ)) → Params types params inner → IsSuffix types (su.Params params false) inner
    more_parameters : (types : List (List ℕ)) (x : Param) (xs : List Param) (inner : List (List ℕ)) → Params types (x ∷ xs) inner →
        IsSuffix types (su.Params (x ∷ xs) true) inner

  -- parameters, each in force to the end of the list
  pub data Params : List (List ℕ) → List Param → List (List ℕ) → Type 0 where
    no_more_params : (types : List (List ℕ)) → Params types [] types
    one_more_param : (types own inner types' : List (List ℕ)) (seen : Typed) (x : Param) (rest : List Param) →
        (out-Param x).specs ≢ [] → Specs true true types untyped (out-Param x).specs own seen →
        IsParameter own seen (out-Param x).declarator inner → Params inner rest types' → Params types (x ∷ rest) types'

  -- the declarator of a parameter, which may lack its word, and the typedef names in force behind it
  pub data IsParameter : List (List ℕ) → Typed → Declarator → List (List ℕ) → Type 0 where
    named : (types : List (List ℕ)) (seen : Typed) (name : List ℕ) (d : Declarator) (inner : List (List ℕ)) → IsDeclarator types seen name d inner →
        IsParameter types seen d (without name types)
    unnamed : (types : List (List ℕ)) (seen : Typed) (stars : List (List (List ℕ))) (suffix : Suffix) (inner : List (List ℕ)) → AreStars stars → IsSuffix types suffix inner →
        IsParameter types seen (record { stars = stars; name = None; suffix = suffix }) types

-- initialisers: an assignment expression, or one at least in braces (6.7.8)
mutual
  pub data IsInit (types : List (List ℕ)) : Init → Type 0 where
    one : (m : ℕ) (x : Exp) → 1 ≤ m → Formed types m x → IsInit types (init.One x)
    many : (x : Init) (xs : List Init) (more : Bool) → AllInits types (x ∷ xs) → IsInit types (init.Many (x ∷ xs) more)

  pub data AllInits (types : List (List ℕ)) : List Init → Type 0 where
    no_more_inits : AllInits types []
    one_more_init : (x : Init) (xs : List Init) → IsInit types x → AllInits types xs → AllInits types (x ∷ xs)

abbrev pub IsTypedef : List Specifier → Type 0
IsTypedef specs = Contains specs (sp.Word (codes "typedef"))

-- the typedef names in force behind the declarator of a word: a new one, or else the word hides one (6.2.1p7)
pub data Declares (specs : List Specifier) (name : List ℕ) (types : List (List ℕ)) : List (List ℕ) → Type 0 where
  new_type : IsTypedef specs → Declares specs name types (name ∷ types)
  other : (IsTypedef specs → ⊥) → Declares specs name types (without name types)

-- declarators with their initialisers
pub data Parts (specs : List Specifier) (seen : Typed) : List (List ℕ) → List (Declarator × Option Init) → List (List ℕ) → Type 0 where
  no_more_parts : (types : List (List ℕ)) → Parts specs seen types [] types
  part : (types params inner types' : List (List ℕ)) (name : List ℕ) (d : Declarator) (rest : List (Declarator × Option Init)) →
      IsDeclarator types seen name d params → Declares specs name types inner → Parts specs seen inner rest types' →
      Parts specs seen types ((d, None) ∷ rest) types'
  initialised : (types params inner types' : List (List ℕ)) (name : List ℕ) (d : Declarator) (x : Init) (rest : List (Declarator × Option Init)) →
      IsDeclarator types seen name d params → Declares specs name types inner → IsInit inner x → Parts specs seen inner rest types' →
      Parts specs seen types ((d, Some x) ∷ rest) types'

-- Declared types d types': d is well formed with one specifier at least, and these typedef names are in force behind it
pub data Declared : List (List ℕ) → Decl → List (List ℕ) → Type 0 where
  declared : (types inner types' : List (List ℕ)) (seen : Typed) (spec : Specifier) (specs : List Specifier) (parts : List (Declarator × Option Init)) →
      Specs true true types untyped (spec ∷ specs) inner seen → Parts (spec ∷ specs) seen inner parts types' →
      Declared types (record { specs = spec ∷ specs; parts = parts }) types'

-- a piece that is a declaration, or a lone semicolon
pub data IsPiece : List (List ℕ) → Decl → List (List ℕ) → Type 0 where
  lone : (types : List (List ℕ)) → IsPiece types (record { specs = []; parts = [] }) types
  declaration : (types types' : List (List ℕ)) (d : Decl) → Declared types d types' → IsPiece types d types'

-- a well-formed declaration at file level, none of whose paths has more than 256 expressions
pub record IsDeclaration (types : List (List ℕ)) (d : Decl) (types' : List (List ℕ)) : Type 0 where
  pub formed : IsPiece types d types'
  pub nested : decl_height d ≤ 256
