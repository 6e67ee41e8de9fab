-- Which names a declaration, and a definition, leave in force (C99 6.2.1).
use Rattle.std.specs.Prelude.{ℕ, ◌≡◌, ◌⊎◌, ◌↔◌, Bool, List, [], ◌∷◌, map, Contains, Option, Some, None}
use Rattle.po_tree.specs.declared.expression.Exp.{Exp}
use Rattle.po_tree.specs.declared.expression.Specifier.{Specifier}
use Rattle.po_tree.specs.declared.expression.Specifier.TheVariants as sp
use Rattle.po_tree.specs.declared.expression.Declarator.{Declarator}
use Rattle.po_tree.specs.declared.expression.Member.{Member, out-Member}
use Rattle.po_tree.specs.declared.declaration.Init.{Init}
use Rattle.po_tree.specs.declared.declaration.Decl.{Decl}
use Rattle.po_tree.specs.declared.function.FunTree.{FunTree}
use Rattle.po_tree.specs.NameSets.{Adds, Hides}
use Rattle.po_tree.specs.InForce.{InForce}
use Rattle.po_tree.specs.Declarations.{IsTypedef}

-- a specifier declares an enumerator, itself or by a member of its body (6.7.2.2)
pub data Enumerates (name : List ℕ) : Specifier → Type 0 where
  listed : (tag : Option (List ℕ)) (items : List (List ℕ × Option Exp)) (more : Bool) →
      Contains (map (λ item. item.0) items) name → Enumerates name (sp.Enum tag (Some items) more)
  in_member : (tag : Option (List ℕ)) (ms : List Member) (m : Member) (s : Specifier) →
      Contains ms m → Contains (out-Member m).specs s → Enumerates name s → Enumerates name (sp.Struct tag (Some ms))

-- a specifier has a tag, itself or by a member of its body (6.7.2.3)
pub data Tags (name : List ℕ) : Specifier → Type 0 where
  of_struct : (ms : Option (List Member)) → Tags name (sp.Struct (Some name) ms)
  of_enum : (items : Option (List (List ℕ × Option Exp))) (more : Bool) → Tags name (sp.Enum (Some name) items more)
  in_body : (tag : Option (List ℕ)) (ms : List Member) (m : Member) (s : Specifier) →
      Contains ms m → Contains (out-Member m).specs s → Tags name s → Tags name (sp.Struct tag (Some ms))

-- one of the specifiers does
abbrev pub Somewhere : (Specifier → Type 0) → List Specifier → Type 0
Somewhere P specs = (s : Specifier) × Contains specs s × P s

-- a declarator has this word
abbrev pub IsWordOf : List ℕ → (Declarator × Option Init) → Type 0
IsWordOf name part = part.0.name ≡ Some name

abbrev pub HasWord : List (Declarator × Option Init) → List ℕ → Type 0
HasWord parts name = (part : Declarator × Option Init) × Contains parts part × IsWordOf name part

-- The typedef names behind specifiers and the words of declarators: those that these declare, and those from before that no enumerator
-- or word hides.
abbrev pub IsTypeBehindWords : List (List ℕ) → List Specifier → (List ℕ → Type 0) → List ℕ → Type 0
IsTypeBehindWords types specs IsWord name =
    (IsTypedef specs × IsWord name) ⊎ (Contains types name × (Somewhere (Enumerates name) specs → ⊥) × (IsWord name → ⊥))

-- the typedef names behind a declaration
abbrev pub IsTypeBehind : List (List ℕ) → Decl → List ℕ → Type 0
IsTypeBehind types d name = IsTypeBehindWords types d.specs (HasWord d.parts) name

-- the names behind a declaration
pub record AreBehind (before : InForce) (d : Decl) (behind : InForce) : Type 0 where
  pub types : (name : List ℕ) → Contains behind.typedefs name ↔ IsTypeBehind before.typedefs d name
  pub tags : (name : List ℕ) → Contains behind.tags name ↔ (Contains before.tags name ⊎ Somewhere (Tags name) d.specs)

-- The head of a definition, as a declaration: the names behind a definition are those behind it.
abbrev pub head_of : FunTree → Decl
head_of g = record { specs = g.specs; parts = (g.declarator, None) ∷ [] }

-- the names behind specifiers and words, in the same scopes
pub record AreBehindWords (before : InForce) (specs : List Specifier) (words : List (List ℕ)) (behind : InForce) : Type 0 where
  pub types : (name : List ℕ) → Contains behind.typedefs name ↔ IsTypeBehindWords before.typedefs specs (Contains words) name
  pub tags : (name : List ℕ) → Contains behind.tags name ↔ (Contains before.tags name ⊎ Somewhere (Tags name) specs)
  pub outer : behind.outer ≡ before.outer

-- One kind of names changes, and nothing else.

abbrev pub HidesTypes : (List ℕ → Type 0) → InForce → InForce → Type 0
HidesTypes P before behind = Hides P before.typedefs behind.typedefs × (behind.tags ≡ before.tags) × (behind.outer ≡ before.outer)

abbrev pub AddsTypes : (List ℕ → Type 0) → InForce → InForce → Type 0
AddsTypes P before behind = Adds P before.typedefs behind.typedefs × (behind.tags ≡ before.tags) × (behind.outer ≡ before.outer)

abbrev pub AddsTags : (List ℕ → Type 0) → InForce → InForce → Type 0
AddsTags P before behind = (behind.typedefs ≡ before.typedefs) × Adds P before.tags behind.tags × (behind.outer ≡ before.outer)
