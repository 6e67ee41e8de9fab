-- Which expressions and type names are well formed (C99 6.5, 6.6, 6.7.6).
use Rattle.std.specs.Prelude.{ℕ, ◌≤◌, List, [], ◌∷◌, All, Contains, Option, Some, None, false}
use Rattle.po_tree.specs.declared.operator.Infix.{Infix}
use Rattle.po_tree.specs.declared.operator.Prefix.{Prefix}
use Rattle.po_tree.specs.declared.operator.Postfix.{Postfix}
use Rattle.po_tree.specs.declared.operator.Selector.{Selector}
use Rattle.po_tree.specs.declared.expression.Exp.{Exp}
use Rattle.po_tree.specs.declared.expression.Exp.TheVariants as e
use Rattle.po_tree.specs.declared.expression.TypeName.{TypeName}
use Rattle.po_tree.specs.declared.expression.Specifier.{Specifier}
use Rattle.po_tree.specs.declared.expression.Specifier.TheVariants as sp
use Rattle.po_tree.specs.declared.expression.Suffix.{Suffix}
use Rattle.po_tree.specs.declared.expression.Suffix.TheVariants as su
use Rattle.po_tree.specs.Signs.{Sign, word, number, character}
use Rattle.po_tree.specs.Words.{IsName, type_words, qualifiers}
use Rattle.po_tree.specs.Literals.{IsInteger, IsCharacter, IsString}
use Rattle.po_tree.specs.Operators.{IsWritten, level, least_left, least_right, joined, least_operand, prefixed, postfixed, selected}
use Rattle.po_tree.specs.Heights.{height}

-- the type specifiers that stand before a place among specifiers: none, only words of types, or a struct, an enum or a typedef name
pub data Typed : Type 0 where
  untyped : Typed
  by_words : Typed
  by_name : Typed

-- a type specifier that is a word may follow others that are words (6.7.2)
abbrev pub TakesWord : Typed → Type 0
TakesWord by_name = ⊥
TakesWord _ = Unit {0}

-- the expressions of one token, with that token (6.5.1)
pub data IsLeaf (types : List (List ℕ)) : Exp → Sign → Type 0 where
  variable : (name : List ℕ) → IsName name → (Contains types name → ⊥) → IsLeaf types (e.Var name) (word name)
  integer : (text : List ℕ) → IsInteger text → IsLeaf types (e.Num text) (number text)
  one_character : (text : List ℕ) → IsCharacter text → IsLeaf types (e.Chr text) (character text)

-- TypeSpecs types seen specs: these may stand in a type name behind such specifiers: no storage class, no `inline`, no body of a tag
pub data TypeSpecs (types : List (List ℕ)) : Typed → List Specifier → Type 0 where
  no_more_specs : (seen : Typed) → TypeSpecs types seen []
  qualifier : (seen : Typed) (text : List ℕ) (rest : List Specifier) → Contains qualifiers text →
      TypeSpecs types seen rest → TypeSpecs types seen (sp.Word text ∷ rest)
  type_word : (seen : Typed) (text : List ℕ) (rest : List Specifier) → Contains type_words text → TakesWord seen →
      TypeSpecs types by_words rest → TypeSpecs types seen (sp.Word text ∷ rest)
  typedef_name : (name : List ℕ) (rest : List Specifier) → IsName name → Contains types name →
      TypeSpecs types by_name rest → TypeSpecs types untyped (sp.Named name ∷ rest)
  struct_tag : (tag : List ℕ) (rest : List Specifier) → IsName tag →
      TypeSpecs types by_name rest → TypeSpecs types untyped (sp.Struct (Some tag) None ∷ rest)
  enum_tag : (tag : List ℕ) (rest : List Specifier) → IsName tag →
      TypeSpecs types by_name rest → TypeSpecs types untyped (sp.Enum (Some tag) None false ∷ rest)

mutual
  -- Formed types level x: x is a well-formed expression of this level, where `types` are the typedef names in force
  pub data Formed (types : List (List ℕ)) : ℕ → Exp → Type 0 where
    leaf : (x : Exp) (sign : Sign) → IsLeaf types x sign → Formed types 15 x
    strings : (text : List ℕ) (texts : List (List ℕ)) → All IsString (text ∷ texts) → Formed types 15 (e.Str (text ∷ texts))
    paren : (m : ℕ) (x : Exp) → Formed types m x → Formed types 15 (e.Paren x)
    -- 6.5.2
    index : (m : ℕ) (x y : Exp) → Formed types 15 x → Formed types m y → Formed types 15 (e.Index x y)
    call : (x : Exp) (xs : List Exp) → Formed types 15 x → AllFormed types xs → Formed types 15 (e.Call x xs)
    member : (s : Selector) (x : Exp) (name : List ℕ) → IsName name → Formed types 15 x → Formed types 15 (selected s x name)
    stepped : (q : Postfix) (x : Exp) → Formed types 15 x → Formed types 15 (postfixed q x)
    -- 6.5.3, 6.5.4
    unary : (p : Prefix) (m : ℕ) (x : Exp) → least_operand p ≤ m → Formed types m x → Formed types 14 (prefixed p x)
    size_of_type : (t : TypeName) → TypeFormed types t → Formed types 14 (e.SizeType t)
    cast : (m : ℕ) (t : TypeName) (x : Exp) → 13 ≤ m → TypeFormed types t → Formed types m x → Formed types 13 (e.Cast t x)
    -- 6.5.5 to 6.5.17
    binary : (o : Infix) (m k : ℕ) (x y : Exp) → IsWritten o → least_left o ≤ m → least_right o ≤ k →
        Formed types m x → Formed types k y → Formed types (level o) (joined o x y)
    conditional : (m n k : ℕ) (x y z : Exp) → 3 ≤ m → 2 ≤ k →
        Formed types m x → Formed types n y → Formed types k z → Formed types 2 (e.Cond x y z)

  -- the arguments of a call: assignment expressions
  pub data AllFormed (types : List (List ℕ)) : List Exp → Type 0 where
    no_more : AllFormed types []
    one_more : (m : ℕ) (x : Exp) (xs : List Exp) → 1 ≤ m → Formed types m x → AllFormed types xs → AllFormed types (x ∷ xs)

  -- a type name: specifiers, and a declarator that lacks its word and has no parameters
  pub data TypeFormed (types : List (List ℕ)) : TypeName → Type 0 where
    type_name : (spec : Specifier) (specs : List Specifier) (stars : List (List (List ℕ))) (suffix : Suffix) →
        TypeSpecs types untyped (spec ∷ specs) → All (All (Contains qualifiers)) stars → SuffixFormed types suffix →
        TypeFormed types (record { specs = spec ∷ specs; declarator = record { stars = stars; name = None; suffix = suffix } })

  pub data SuffixFormed (types : List (List ℕ)) : Suffix → Type 0 where
    plain : SuffixFormed types su.Plain
    arrays : (size : Option Exp) (sizes : List (Option Exp)) → SizesFormed types (size ∷ sizes) → SuffixFormed types (su.Arrays (size ∷ sizes))

  -- the sizes of arrays, which may be missing: conditional expressions
  pub data SizesFormed (types : List (List ℕ)) : List (Option Exp) → Type 0 where
    no_more_sizes : SizesFormed types []
    no_size : (sizes : List (Option Exp)) → SizesFormed types sizes → SizesFormed types (None ∷ sizes)
    one_size : (m : ℕ) (x : Exp) (sizes : List (Option Exp)) → 2 ≤ m → Formed types m x → SizesFormed types sizes → SizesFormed types (Some x ∷ sizes)

-- a well-formed expression, none of whose paths has more than 256 expressions
pub record IsExpression (types : List (List ℕ)) (x : Exp) : Type 0 where
  pub level_of : ℕ
  pub formed : Formed types level_of x
  pub nested : height x ≤ 256
