-- Which names a head hides in the body of its definition (C99 6.2.1p4, 6.9.1).
use Rattle.std.specs.Prelude.{ℕ, ◌≡◌, ◌⊎◌, List, Contains, Some}
use Rattle.po_tree.specs.declared.expression.Specifier.{Specifier}
use Rattle.po_tree.specs.declared.expression.Param.{Param, out-Param}
use Rattle.po_tree.specs.NameSets.{Hides}
use Rattle.po_tree.specs.InForce.{InForce}
use Rattle.po_tree.specs.Scope.{Enumerates, Somewhere}

-- one of the specifiers declares the name as an enumerator (6.7.2.2)
abbrev pub IsEnumerator : List Specifier → List ℕ → Type 0
IsEnumerator specs name = Somewhere (Enumerates name) specs

-- a parameter is named so, or its specifiers declare the name (6.7.5.3)
abbrev pub IsOfParameter : Param → List ℕ → Type 0
IsOfParameter x name = IsEnumerator (out-Param x).specs name ⊎ ((out-Param x).declarator.name ≡ Some name)

abbrev pub IsOfParameters : List Param → List ℕ → Type 0
IsOfParameters params name = (x : Param) × Contains params x × IsOfParameter x name

-- the specifiers, the parameters or the function itself are what hides the name
abbrev pub IsOfHead : List Specifier → List ℕ → List Param → List ℕ → Type 0
IsOfHead specs own params name = IsEnumerator specs name ⊎ (IsOfParameters params name ⊎ (own ≡ name))

-- the typedef names that are such are hidden, in the same scopes
pub record HidesNames (P : List ℕ → Type 0) (before behind : InForce) : Type 0 where
  pub types : Hides P before.typedefs behind.typedefs
  pub outer : behind.outer ≡ before.outer
