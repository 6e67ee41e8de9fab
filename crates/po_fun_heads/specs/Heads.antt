-- The head of a function definition at the front of tokens (C99 6.9.1): its specifiers, its declarator, and the brace that opens the body.
use Rattle.std.specs.Prelude.{ℕ, max, ◌≤◌, ◌≡◌, Bool, true, List, [], ◌∷◌, ◌++◌, map, flat_map, Some, None}
use Rattle.po_tree.specs.declared.expression.Specifier.{Specifier}
use Rattle.po_tree.specs.declared.expression.Suffix.TheVariants as su
use Rattle.po_tree.specs.declared.expression.Declarator.{Declarator}
use Rattle.po_tree.specs.declared.expression.Param.{Param}
use Rattle.po_tree.specs.declared.declaration.Decl.{Decl}
use Rattle.po_tree.specs.NameSets.{AreSame}
use Rattle.po_tree.specs.InForce.{InForce}
use Rattle.po_tree.specs.Signs.{Sign, brace}
use Rattle.po_tree.specs.Printing.{flat_specifier, flat_declarator}
use Rattle.po_tree.specs.Heights.{specifier_height, declarator_height, greatest}
use Rattle.po_tree.specs.Expressions.{Typed, untyped}
use Rattle.po_tree.specs.Declarations.{Specs, IsDeclarator, without}

-- a declarator of this word with parameters (6.7.5.3)
abbrev pub function_declarator : List (List (List ℕ)) → List ℕ → List Param → Bool → Declarator
function_declarator stars name params more = record { stars = stars; name = Some name; suffix = su.Params params more }

-- the declaration that a head is with a semicolon behind it (6.7)
abbrev pub as_declaration : List Specifier → Declarator → Decl
as_declaration specs d = record { specs = specs; parts = (d, None) ∷ [] }

-- IsHead types specs declarator inside: specifiers and a declarator with parameters are the head of a definition where `types` are the typedef
-- names in force, and `inside` are those in its body, where the function's own name, the parameters and the enumerators of the head hide them
pub data IsHead (types : List (List ℕ)) : List Specifier → Declarator → List (List ℕ) → Type 0 where
  head : (own inner : List (List ℕ)) (seen : Typed) (spec : Specifier) (specs : List Specifier) (name : List ℕ) (stars : List (List (List ℕ)))
      (params : List Param) (more : Bool) →
      Specs true true types untyped (spec ∷ specs) own seen →
      IsDeclarator own seen name (function_declarator stars name params more) inner →
      IsHead types (spec ∷ specs) (function_declarator stars name params more) (without name inner)

-- such a head stands at the front of the signs, none of whose paths has more than 256 expressions, with the brace that opens the body, and then these
pub record HeadStands (types : List (List ℕ)) (signs : List Sign) (specs : List Specifier) (declarator : Declarator) (inside : List (List ℕ)) (left : List Sign) : Type 0 where
  pub formed : IsHead types specs declarator inside
  pub nested : max (greatest (map specifier_height specs)) (declarator_height declarator) ≤ 256
  pub printed : signs ≡ flat_map flat_specifier specs ++ (flat_declarator declarator ++ (brace ∷ left))

-- The head stands there, a scope is open in which just the names of its body are in force, and `left` is what stands behind the brace.
pub record Enters (before : InForce) (signs : List Sign) (specs : List Specifier) (declarator : Declarator) (left : List Sign) (behind : InForce) : Type 0 where
  pub inside : List (List ℕ)
  pub stands : HeadStands before.typedefs signs specs declarator inside left
  pub same : AreSame inside behind.typedefs
  pub scope : behind.outer ≡ record { typedefs = before.typedefs; tags = before.tags } ∷ before.outer
